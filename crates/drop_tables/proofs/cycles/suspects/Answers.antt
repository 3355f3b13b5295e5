use Rattle.std.proofs.Common.{◌∙◌, sym, ap}
use Rattle.drop_tables.specs.Marks.{is_marked}
use Rattle.drop_tables.proofs.Numbering.{level_apart, none_apart}
use Rattle.drop_tables.proofs.MarkLists.{all_marked}
use Rattle.std.proofs.Common.{length}
use Rattle.drop_tables.proofs.cycles.suspects.Goals as goal

pub returns-in-Some : goal.returns-in-Some
returns-in-Some c = λ D are d off. level_apart D c.args.holders.now c.as_slice.result.now c.in-Some.marks are (rw c.in-Some.is at c.in_ok-marks.ensures) d off

pub returns : goal.returns
returns c = λ D are d off. none_apart D d (sym (all_marked D (length c.args.holders.now) d (sym are.long)) ∙ (sym (ap (λ l. is_marked l d) c.in_ok-all-in-None.ensures) ∙ off))
