use Rattle.std.proofs.Common.{◌∙◌, sym, ap, Some}
use Rattle.mir_meaning.specs.Views.{memory_of, part_of}
use Rattle.mir_meaning.specs.Spots.{spot_of}
use Rattle.mir_meaning.specs.Sight.{here_of}
use Rattle.mir_meaning.proofs.Operands.{copy_missed, copy_hole, copy_found}
use Rattle.mir_meaning.proofs.operand.read_copy.Goals as goal

pub returns-in_default : goal.returns-in_default
returns-in_default c = copy_missed (here_of c.args.here) (memory_of c.args.memory.now) c.args.place.now c.in_default.ensures.place

pub returns-then-not-is_whole : goal.returns-then-not-is_whole
returns-then-not-is_whole c =
    copy_hole (here_of c.args.here) (memory_of c.args.memory.now) c.args.place.now (spot_of c.in-Some.field-0-0) (part_of c.in-Some.part) c.in-Some.ensures.place (sym c.is_whole.ensures ∙ c.if-not-is_whole.true)

pub returns : goal.returns
returns c =
    copy_found (here_of c.args.here) (memory_of c.args.memory.now) c.args.place.now (spot_of c.in-Some.field-0-0) (part_of c.in-Some.part) c.in-Some.ensures.place (sym c.is_whole.ensures ∙ c.if-not-is_whole.false)
    ∙ ap (λ v. Some (v, memory_of c.args.memory.now)) (sym c.in_ok-copied.ensures)
