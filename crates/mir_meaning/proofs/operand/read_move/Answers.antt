use Rattle.std.proofs.Common.{◌∙◌, sym}
use Rattle.mir_meaning.specs.Programs.{type_in}
use Rattle.mir_meaning.specs.Views.{memory_of, part_of}
use Rattle.mir_meaning.specs.Spots.{spot_of}
use Rattle.mir_meaning.specs.Sight.{here_of}
use Rattle.mir_meaning.proofs.Operands.{move_missed, move_hole, move_untyped, move_found, moved}
use Rattle.mir_meaning.proofs.operand.read_move.Goals as goal

pub returns-in_default : goal.returns-in_default
returns-in_default c = move_missed (here_of c.args.here) (memory_of c.args.memory.now) c.args.place.now c.in_default.ensures.place

pub returns-then-not-is_whole : goal.returns-then-not-is_whole
returns-then-not-is_whole c =
    move_hole (here_of c.args.here) (memory_of c.args.memory.now) c.args.place.now (spot_of c.in-Some.spot) (part_of c.in-Some.part) c.in-Some.ensures.place (sym c.is_whole.ensures ∙ c.if-not-is_whole.true)

pub returns-in_default-type_of : goal.returns-in_default-type_of
returns-in_default-type_of c =
    move_untyped (here_of c.args.here) (memory_of c.args.memory.now) c.args.place.now (spot_of c.in-Some.spot) (part_of c.in-Some.part) c.in-Some.ensures.place (sym c.is_whole.ensures ∙ c.if-not-is_whole.false) (sym c.in_default-type_of.ensures)

pub returns : goal.returns
returns c =
    move_found (here_of c.args.here) (memory_of c.args.memory.now) c.args.place.now (spot_of c.in-Some.spot) (part_of c.in-Some.part) (type_in c.args.here.program.now c.in-Some-type_of.ty) c.in-Some.ensures.place (sym c.is_whole.ensures ∙ c.if-not-is_whole.false) (sym c.in-Some-type_of.ensures)
    ∙ moved (memory_of c.args.memory.now) _ _ _ _ _ _ _ c.in_ok-value.ensures c.in_ok-target.ensures c.in_ok-blank.ensures c.put_at.ensures
