use Rattle.std.proofs.Common.{◌≡◌, ◌∷◌, ◌∙◌, ◌++◌, map, ap, refl, sym}
use Rattle.mir_syntax.specs.Tree.{trees_of}
use Rattle.mir_syntax.specs.Crate.{outside_of}
use Rattle.mir_text.specs.Naming.{outside_in, outsides_in}
use Rattle.mir_text.specs.NameFaults.{each}
use Rattle.mir_text.specs.ReadLines.{outside_line_in}
use Rattle.mir_tree.specs.Rules.{lined_item}
use Rattle.mir_resolve.specs.Faults.{noted}
use Rattle.mir_resolve.specs.Definitions.{before_defs}
use Rattle.mir_resolve.proofs.Growing.{grown_then}
use Rattle.mir_resolve.proofs.Making.{later_of, first_left}
use Rattle.mir_file.specs.Items.{rule_of, rules_of, outside_faults}
use Rattle.mir_file.proofs.Steps.{append_step, append_ended, faults_step, faults_ended}
use Rattle.mir_file.proofs.outsides.read_outsides.Goals as goal

pub items-preserved : goal.items-preserved
items-preserved c =
    let left = c.items.left.now in
    let item = c.item-item.result in
    let later = later_of left in
    let first : left ≡ item ∷ later = first_left left item c.in-len1-up.len_at_least c.item-item.is in
    let strings = c.args.strings.now in
    let paths = c.args.paths.now in
    let old = c.items.found in
    let made = map (outside_of (trees_of c.items.draft.program.types)) old.outsides in
    let is = c.in_ok-read_extern.ensures in
    let faults = outside_faults (before_defs strings paths) in
    record {
      told = append_step made _ (outside_in (before_defs strings paths) (rule_of item)) (outsides_in (before_defs strings paths) (rules_of later)) _ is.outsides
          (ap (λ l. made ++ outsides_in (before_defs strings paths) (rules_of l)) (sym first) ∙ c.items.invariant.told);
      inside = is.inside;
      lines = append_step old.lines _ (outside_line_in (lined_item item)) (each outside_line_in (map lined_item later)) _ is.lines
          (ap (λ l. old.lines ++ each outside_line_in (map lined_item l)) (sym first) ∙ c.items.invariant.lines);
      notes = faults_step c.items.draft.notes _ _ (faults item) (each faults later) is.went.notes
          (ap (λ l. noted c.items.draft.notes (each faults l)) (sym first) ∙ c.items.invariant.notes);
      grown = grown_then c.items.invariant.grown is.went.grown;
    }

pub returns-clause-outsides : goal.returns-clause-outsides
returns-clause-outsides c =
    append_ended (λ l. outsides_in (before_defs c.args.strings.now c.args.paths.now) (rules_of l)) c.items.left.now _ _ c.in_default.len_below refl c.items.invariant.told

pub returns-clause-lines : goal.returns-clause-lines
returns-clause-lines c = append_ended (λ l. each outside_line_in (map lined_item l)) c.items.left.now _ _ c.in_default.len_below refl c.items.invariant.lines

pub returns-clause-went : goal.returns-clause-went
returns-clause-went c = record {
  grown = c.items.invariant.grown;
  notes = faults_ended (each (outside_faults (before_defs c.args.strings.now c.args.paths.now))) c.items.left.now c.items.draft.notes _ c.in_default.len_below refl c.items.invariant.notes;
}
