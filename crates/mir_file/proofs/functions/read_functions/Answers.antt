use Rattle.std.proofs.Common.{◌≡◌, ◌∷◌, ◌∙◌, ◌++◌, map, ap, refl, sym}
use Rattle.std.specs.Vec.Iter.{into_iter_items}
use Rattle.mir_syntax.specs.Tree.{trees_of}
use Rattle.mir_syntax.specs.Crate.{function_of}
use Rattle.mir_text.specs.NamedBodies.{or_else}
use Rattle.mir_text.specs.Naming.{function_in, functions_in}
use Rattle.mir_text.specs.NameFaults.{each}
use Rattle.mir_text.specs.ReadLines.{first_of, fn_lines_in, wrong_in_item}
use Rattle.mir_tree.specs.Rules.{lined_item}
use Rattle.mir_resolve.specs.Faults.{noted}
use Rattle.mir_resolve.proofs.Growing.{grown_then}
use Rattle.mir_file.specs.Items.{rule_of, rules_of, fn_text_faults}
use Rattle.mir_file.proofs.Steps.{append_step, append_ended, faults_step, faults_ended}
use Rattle.mir_file.proofs.Taking.{next_taken, all_taken}
use Rattle.mir_file.proofs.Bodies.{first_step, first_ended, knows_on}
use Rattle.mir_file.proofs.functions.read_functions.Goals as goal

pub items-preserved : goal.items-preserved
items-preserved g c =
    let item = c.in-Some.item in
    let left = into_iter_items c.items.item-iterator in
    let later = into_iter_items c.next.new.self in
    let first : left ≡ item ∷ later = next_taken c.items.item-iterator c.next.new.self c.next.result item c.in-Some.is c.next.ensures.steps in
    let old = c.items.found in
    let before = c.items.invariant in
    let made = map (function_of (trees_of c.items.draft.program.types)) old.functions in
    let is = c.in_ok-read_item.ensures in
    let faults = fn_text_faults g.names in
    let wrong = wrong_in_item g.names in
    record {
      told = append_step made _ (function_in g.names (rule_of item)) (functions_in g.names (rules_of later)) _ is.functions
          (ap (λ l. made ++ functions_in g.names (rules_of l)) (sym first) ∙ before.told);
      inside = is.inside;
      lines = append_step old.lines _ (fn_lines_in (lined_item item)) (each fn_lines_in (map lined_item later)) _ is.lines
          (ap (λ l. old.lines ++ each fn_lines_in (map lined_item l)) (sym first) ∙ before.lines);
      wrong = first_step old.wrong_field _ _ (wrong (lined_item item)) (each wrong (map lined_item later)) is.wrong
          (ap (λ l. or_else old.wrong_field (first_of (each wrong (map lined_item l)))) (sym first) ∙ before.wrong);
      notes = faults_step c.items.draft.notes _ _ (faults item) (each faults later) is.went.notes
          (ap (λ l. noted c.items.draft.notes (each faults l)) (sym first) ∙ before.notes);
      grown = grown_then before.grown is.went.grown;
      knows = knows_on _ _ _ _ _ before.knows is.went.grown;
    }

pub returns-clause-functions : goal.returns-clause-functions
returns-clause-functions g c = append_ended (λ l. functions_in g.names (rules_of l)) (into_iter_items c.items.item-iterator) _ _ (all_taken c.items.item-iterator c.next.new.self c.next.result c.in-None.is c.next.ensures.steps) refl c.items.invariant.told

pub returns-clause-lines : goal.returns-clause-lines
returns-clause-lines g c = append_ended (λ l. each fn_lines_in (map lined_item l)) (into_iter_items c.items.item-iterator) _ _ (all_taken c.items.item-iterator c.next.new.self c.next.result c.in-None.is c.next.ensures.steps) refl c.items.invariant.lines

pub returns-clause-wrong : goal.returns-clause-wrong
returns-clause-wrong g c = first_ended (λ l. each (wrong_in_item g.names) (map lined_item l)) (into_iter_items c.items.item-iterator) _ _ (all_taken c.items.item-iterator c.next.new.self c.next.result c.in-None.is c.next.ensures.steps) refl c.items.invariant.wrong

pub returns-clause-went : goal.returns-clause-went
returns-clause-went g c = record {
  grown = c.items.invariant.grown;
  notes = faults_ended (each (fn_text_faults g.names)) (into_iter_items c.items.item-iterator) c.items.draft.notes _ (all_taken c.items.item-iterator c.next.new.self c.next.result c.in-None.is c.next.ensures.steps) refl c.items.invariant.notes;
}
