use Rattle.std.proofs.Common.{◌≡◌, ◌∷◌, ◌∙◌, ◌++◌, map, ap, refl, sym}
use Rattle.mir_syntax.specs.Tree.{trees_of}
use Rattle.mir_syntax.specs.Crate.{def_of}
use Rattle.mir_text.specs.Names.{def_named, def_in, defs_in}
use Rattle.mir_text.specs.NameFaults.{each}
use Rattle.mir_text.specs.ReadLines.{def_line_in}
use Rattle.mir_tree.specs.Rules.{lined_item}
use Rattle.mir_resolve.specs.Faults.{noted}
use Rattle.mir_resolve.specs.Definitions.{before_defs}
use Rattle.mir_resolve.proofs.Growing.{grown_then}
use Rattle.mir_resolve.proofs.Making.{later_of, first_left}
use Rattle.mir_file.specs.Items.{rule_of, rules_of, def_faults}
use Rattle.mir_file.proofs.Steps.{append_step, append_ended, faults_step, faults_ended}
use Rattle.mir_file.proofs.FirstItems.{defs_first}
use Rattle.mir_file.proofs.defs.read_defs.Goals as goal

pub items-preserved : goal.items-preserved
items-preserved c =
    let left = c.items.left.now in
    let item = c.item-item.result in
    let later = later_of left in
    let first : left ≡ item ∷ later = first_left left item c.in-len1-up.len_at_least c.item-item.is in
    let strings = c.args.strings.now in
    let paths = c.args.paths.now in
    let old = c.items.found in
    let made = map (def_of (trees_of c.items.draft.program.types)) old.defs in
    let is = c.in_ok-read_def.ensures in
    let faults = def_faults (before_defs strings paths) in
    record {
      told = append_step made _ (map (def_named strings paths) (def_in (rule_of item))) (map (def_named strings paths) (defs_in (rules_of later))) _ is.defs
          (ap (λ l. made ++ l) (sym (defs_first strings paths item later)) ∙ ap (λ l. made ++ map (def_named strings paths) (defs_in (rules_of l))) (sym first) ∙ c.items.invariant.told);
      inside = is.inside;
      lines = append_step old.lines _ (def_line_in (lined_item item)) (each def_line_in (map lined_item later)) _ is.lines
          (ap (λ l. old.lines ++ each def_line_in (map lined_item l)) (sym first) ∙ c.items.invariant.lines);
      notes = faults_step c.items.draft.notes _ _ (faults item) (each faults later) is.went.notes
          (ap (λ l. noted c.items.draft.notes (each faults l)) (sym first) ∙ c.items.invariant.notes);
      grown = grown_then c.items.invariant.grown is.went.grown;
    }

pub returns-clause-defs : goal.returns-clause-defs
returns-clause-defs c =
    append_ended (λ l. map (def_named c.args.strings.now c.args.paths.now) (defs_in (rules_of l))) c.items.left.now _ _ c.in_default.len_below refl c.items.invariant.told

pub returns-clause-lines : goal.returns-clause-lines
returns-clause-lines c = append_ended (λ l. each def_line_in (map lined_item l)) c.items.left.now _ _ c.in_default.len_below refl c.items.invariant.lines

pub returns-clause-went : goal.returns-clause-went
returns-clause-went c = record {
  grown = c.items.invariant.grown;
  notes = faults_ended (each (def_faults (before_defs c.args.strings.now c.args.paths.now))) c.items.left.now c.items.draft.notes _ c.in_default.len_below refl c.items.invariant.notes;
}
