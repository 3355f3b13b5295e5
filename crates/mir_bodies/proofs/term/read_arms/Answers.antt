use Rattle.std.proofs.Common.{◌≡◌, ◌∷◌, ◌++◌, ◌∙◌, map, get_or, ap, sym, refl}
use Rattle.mir_text.specs.NameFaults.{each, on_line}
use Rattle.mir_resolve.specs.Faults.{noted}
use Rattle.mir_resolve.proofs.Growing.{grown_then}
use Rattle.mir_resolve.proofs.Making.{later_of, first_left}
use Rattle.mir_resolve.proofs.Noting.{notes_step, notes_ended}
use Rattle.mir_tree.specs.declared.body.ArmText.{ArmText}
use Rattle.mir_bodies.specs.Statements.{text_arm, text_arm_codes}
use Rattle.mir_bodies.proofs.Reading.{parts_step, first_any}
use Rattle.mir_bodies.proofs.term.read_arms.Goals as goal

pub arms-preserved : goal.arms-preserved
arms-preserved g c =
    let left = c.arms.left.now in
    let zero : ArmText = record { value = 0; block = 0 } in
    let item = get_or left 0 zero in
    let first : left ≡ item ∷ later_of left = first_left left item c.in-len1-up.len_at_least (first_any left zero item c.in-len1-up.len_at_least) in
    let old = c.arms.draft.notes in
    record {
      told = rw c.in_ok-push.ensures.ok
          (parts_step text_arm c.arms.arms item (text_arm item) (later_of left) _ (ap (λ l. c.arms.arms ++ map text_arm l) (sym first) ∙ c.arms.invariant.told) refl);
      notes = notes_step (text_arm_codes g.sense) item (later_of left) c.args.line old c.note_target.new.draft.notes _
          (ap (λ l. noted old (on_line c.args.line (each (text_arm_codes g.sense) l))) (sym first) ∙ c.arms.invariant.notes) c.note_target.ensures.went.notes;
      grown = grown_then c.arms.invariant.grown c.note_target.ensures.went.grown;
      tells = c.note_target.ensures.tells;
    }

pub returns-clause-went : goal.returns-clause-went
returns-clause-went g c = record {
  grown = c.arms.invariant.grown;
  notes = notes_ended (text_arm_codes g.sense) c.arms.left.now c.args.line c.arms.draft.notes _ c.in_default.len_below c.arms.invariant.notes;
}
