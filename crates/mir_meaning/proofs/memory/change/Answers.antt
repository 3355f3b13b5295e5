use Rattle.std.proofs.Common.{◌∙◌, sym, ap, arith, map, length}
use Rattle.mir_semantics.specs.Values as values
use Rattle.mir_meaning.specs.Views.{value_of}
use Rattle.mir_meaning.proofs.Values.{unwritten, written_twice, slot_read}
use Rattle.mir_meaning.proofs.Memories.{slots_set, slots_past}
use Rattle.mir_meaning.proofs.memory.change.Goals as goal

pub returns-then-slots-local : goal.returns-then-slots-local
returns-then-slots-local c =
    let e = c.as_mut_slice-slots.ensures.value in
    ap (map value_of) (unwritten _ _ e)
    ∙ sym (slots_past c.args.slots.now c.args.local (values.put c.args.path.now (value_of c.args.value)) (omega (arith, ap length e)))

pub returns : goal.returns
returns c =
    let e = c.as_mut_slice-slots.ensures.value in
    ap (map value_of) (written_twice _ _ c.args.local _ _ e)
    ∙ slots_set c.args.slots.now c.args.local (values.put c.args.path.now (value_of c.args.value)) c.replace-old.result c.put.result
    (slot_read _ _ _ _ _ e c.if-slots-local.false c.replace-old.ensures.value) c.put.ensures
