use Rattle.std.proofs.Common.{◌∙◌, sym, ap, arith, map, length}
use Rattle.mir_semantics.specs.Values as sem
use Rattle.mir_meaning.specs.Views.{value_of}
use Rattle.mir_meaning.proofs.Values.{change_set, change_past, parts_change, unwritten, written_twice, slot_read}
use Rattle.mir_meaning.proofs.put.+put.Goals as goal

pub put_field-returns-then-slots-index : goal.put_field-returns-then-slots-index
put_field-returns-then-slots-index t c =
    let e = c.as_mut_slice-slots.ensures.value in
    ap (λ l. sem.listed (map value_of l)) (unwritten _ _ e)
    ∙ sym (change_past c.args.fields c.args.index (sem.put c.args.rest.now (value_of c.args.new)) (omega (arith, ap length e)))

pub put_field-returns : goal.put_field-returns
put_field-returns t c =
    let e = c.as_mut_slice-slots.ensures.value in
    ap (λ l. sem.listed (map value_of l)) (written_twice _ _ c.args.index _ _ e)
    ∙ change_set c.args.fields c.args.index (sem.put c.args.rest.now (value_of c.args.new)) c.replace-old.result c.put.result
    (slot_read _ _ _ _ _ e c.if-slots-index.false c.replace-old.ensures.value) c.put.ensures

pub put_payload-returns-in-Parts : goal.put_payload-returns-in-Parts
put_payload-returns-in-Parts t c = parts_change _ _ _ _ c.in-Parts.is
