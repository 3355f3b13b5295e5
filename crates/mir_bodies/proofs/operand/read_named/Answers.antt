use Rattle.std.proofs.Common.{◌≡◌, ◌∷◌, ◌++◌, ◌||◌, ◌∙◌, map, ap, sym}
use Rattle.mir_text.specs.NameFaults.{each, on_line}
use Rattle.mir_text.specs.ReadLines.{any_wrong}
use Rattle.mir_resolve.specs.Faults.{noted}
use Rattle.mir_resolve.proofs.Growing.{grown_then}
use Rattle.mir_resolve.proofs.Making.{later_of, first_left}
use Rattle.mir_resolve.proofs.Noting.{notes_step, notes_ended}
use Rattle.mir_bodies.specs.Operands.{text_operand, text_codes, text_places, behind_name}
use Rattle.mir_bodies.proofs.Reading.{parts_step, wrong_step, mapped_short}
use Rattle.mir_bodies.proofs.operand.read_named.Goals as goal

pub named-preserved : goal.named-preserved
named-preserved g c =
    let names = g.sense.names in
    let locals = g.sense.locals in
    let left = c.named.left.now in
    let text = c.text-item.result in
    let whole : left ≡ text ∷ later_of left = first_left left text c.in-len1-up.len_at_least c.text-item.is in
    let item = behind_name text in
    let later = map behind_name (later_of left) in
    let first : map behind_name left ≡ item ∷ later = ap (map behind_name) whole in
    let old = c.named.draft.notes in
    let operand = c.in_ok-operand.operand in
    let went = c.in_ok-operand.ensures.went in
    record {
      told = rw c.in_ok-push.ensures.ok
          (parts_step (text_operand g.sense) c.named.operands item operand.part later _
          (ap (λ l. c.named.operands ++ map (text_operand g.sense) l) (sym first) ∙ c.named.invariant.told) c.in_ok-operand.ensures.operand);
      wrong = wrong_step names locals text_places c.named.wrong operand.wrong c.either-wrong.result item later _
          (ap (λ l. c.named.wrong || any_wrong names locals (each text_places l)) (sym first) ∙ c.named.invariant.wrong) c.in_ok-operand.ensures.wrong c.either-wrong.ensures;
      notes = notes_step (text_codes g.sense) item later c.args.line old c.read_operand.new.draft.notes _
          (ap (λ l. noted old (on_line c.args.line (each (text_codes g.sense) l))) (sym first) ∙ c.named.invariant.notes) went.notes;
      grown = grown_then c.named.invariant.grown went.grown;
      tells = c.in_ok-operand.ensures.tells;
    }

pub returns-clause-went : goal.returns-clause-went
returns-clause-went g c = record {
  grown = c.named.invariant.grown;
  notes = notes_ended (text_codes g.sense) (map behind_name c.named.left.now) c.args.line c.named.draft.notes _ (mapped_short behind_name c.named.left.now c.in_default.len_below)
      c.named.invariant.notes;
}
