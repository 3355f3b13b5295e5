use Rattle.std.proofs.Common.{◌∙◌, sym, ap}
use Rattle.std.specs.Option.{option_map}
use Rattle.mir_meaning.specs.Programs.{type_in}
use Rattle.mir_meaning.specs.Spots.{spot_of}
use Rattle.mir_meaning.specs.Views.{memory_of, value_of, part_of}
use Rattle.mir_meaning.specs.Sight.{here_of}
use Rattle.mir_meaning.proofs.Execs.{assign_missed, assign_untyped, assign_refused, assign_done, put_there}
use Rattle.mir_meaning.proofs.exec.assign.Goals as goal

pub returns-in_default : goal.returns-in_default
returns-in_default c = assign_missed (here_of c.args.here) (memory_of c.args.memory.now) c.args.place.now (value_of c.args.value) c.in_default.ensures.place

pub returns-in_default-type_of : goal.returns-in_default-type_of
returns-in_default-type_of c = assign_untyped (here_of c.args.here) (memory_of c.args.memory.now) c.args.place.now (spot_of c.in-Some.spot) (value_of c.args.value) c.in-Some.ensures.place.place (sym c.in_default-type_of.ensures)

pub returns-then-not-allows : goal.returns-then-not-allows
returns-then-not-allows c =
    assign_refused (here_of c.args.here) (memory_of c.args.memory.now) c.args.place.now (spot_of c.in-Some.spot) (type_in c.args.here.program.now c.in-Some-type_of.ty) (option_map (type_in c.args.here.program.now) c.guard-guard.result) (part_of c.in-Some.old) (value_of c.args.value) c.allows.result c.in-Some.ensures.place (sym c.in-Some-type_of.ensures) c.guard-guard.ensures c.allows.ensures c.if-not-allows.true

pub returns : goal.returns
returns c =
    assign_done (here_of c.args.here) (memory_of c.args.memory.now) c.args.place.now (spot_of c.in-Some.spot) (type_in c.args.here.program.now c.in-Some-type_of.ty) (option_map (type_in c.args.here.program.now) c.guard-guard.result) (part_of c.in-Some.old) (value_of c.args.value) c.allows.result c.in-Some.ensures.place (sym c.in-Some-type_of.ensures) c.guard-guard.ensures c.allows.ensures c.if-not-allows.false
    ∙ put_there (memory_of c.args.memory.now) _ _ _ (value_of c.args.value) c.in_ok-target.ensures c.put_at.ensures
