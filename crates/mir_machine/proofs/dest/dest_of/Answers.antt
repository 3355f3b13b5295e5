use Rattle.std.proofs.Common.{◌∙◌, sym, ap}
use Rattle.mir_meaning.specs.Programs.{type_in}
use Rattle.mir_meaning.specs.Spots.{spot_of}
use Rattle.mir_meaning.specs.Views.{memory_of}
use Rattle.mir_meaning.specs.Sight.{here_of}
use Rattle.mir_meaning.proofs.Execs.{dest_found}
use Rattle.mir_machine.proofs.Entering.{dest_lost, dest_untyped, dest_same}
use Rattle.mir_machine.proofs.dest.dest_of.Goals as goal

pub returns-in_default : goal.returns-in_default
returns-in_default c = dest_lost (here_of c.args.here) (memory_of c.args.memory.now) c.args.place.now c.in_default.ensures.place

pub returns-in_default-type_of : goal.returns-in_default-type_of
returns-in_default-type_of c = dest_untyped (here_of c.args.here) (memory_of c.args.memory.now) c.args.place.now (spot_of c.in-Some.spot) c.in-Some.ensures.place (sym c.in_default-type_of.ensures)

pub returns : goal.returns
returns c =
    dest_found (here_of c.args.here) (memory_of c.args.memory.now) c.args.place.now (spot_of c.in-Some.spot) (type_in c.args.here.program.now c.in-Some-type_of.ty) c.in-Some.ensures.place (sym c.in-Some-type_of.ensures)
    ∙ dest_same _ _ _ _ (sym c.in_ok-at.ensures) (sym c.guard-guard.ensures)
