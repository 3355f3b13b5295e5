use Rattle.std.proofs.Common.{◌≡◌, ◌∷◌, ◌++◌, ◌||◌, ◌∙◌, map, ap, sym}
use Rattle.mir_text.specs.NameFaults.{each, on_line}
use Rattle.mir_text.specs.ReadLines.{any_wrong}
use Rattle.mir_resolve.specs.Faults.{noted}
use Rattle.mir_resolve.proofs.Growing.{grown_then}
use Rattle.mir_resolve.proofs.Making.{later_of, first_left}
use Rattle.mir_resolve.proofs.Noting.{notes_step, notes_ended}
use Rattle.mir_bodies.specs.Operands.{text_operand, text_codes, text_places}
use Rattle.mir_bodies.proofs.Reading.{parts_step, wrong_step}
use Rattle.mir_bodies.proofs.operand.read_operands.Goals as goal

pub operands-preserved : goal.operands-preserved
operands-preserved g c =
    let names = g.sense.names in
    let locals = g.sense.locals in
    let left = c.operands.left.now in
    let item = c.text-item.result in
    let first : left ≡ item ∷ later_of left = first_left left item c.in-len1-up.len_at_least c.text-item.is in
    let old = c.operands.draft.notes in
    let operand = c.in_ok-operand.operand in
    let went = c.in_ok-operand.ensures.went in
    record {
      told = rw c.in_ok-push.ensures.ok
          (parts_step (text_operand g.sense) c.operands.operands item operand.part (later_of left) _
          (ap (λ l. c.operands.operands ++ map (text_operand g.sense) l) (sym first) ∙ c.operands.invariant.told) c.in_ok-operand.ensures.operand);
      wrong = wrong_step names locals text_places c.operands.wrong operand.wrong c.either-wrong.result item (later_of left) _
          (ap (λ l. c.operands.wrong || any_wrong names locals (each text_places l)) (sym first) ∙ c.operands.invariant.wrong) c.in_ok-operand.ensures.wrong c.either-wrong.ensures;
      notes = notes_step (text_codes g.sense) item (later_of left) c.args.line old c.read_operand.new.draft.notes _
          (ap (λ l. noted old (on_line c.args.line (each (text_codes g.sense) l))) (sym first) ∙ c.operands.invariant.notes) went.notes;
      grown = grown_then c.operands.invariant.grown went.grown;
      tells = c.in_ok-operand.ensures.tells;
    }

pub returns-clause-went : goal.returns-clause-went
returns-clause-went g c = record {
  grown = c.operands.invariant.grown;
  notes = notes_ended (text_codes g.sense) c.operands.left.now c.args.line c.operands.draft.notes _ c.in_default.len_below c.operands.invariant.notes;
}
