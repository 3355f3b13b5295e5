use Rattle.std.proofs.Common.{◌∙◌, sym, ap}
use Rattle.std.specs.Option.{option_map}
use Rattle.mir_meaning.specs.Views.{memory_of, part_of}
use Rattle.mir_meaning.specs.Spots.{spot_of}
use Rattle.mir_meaning.specs.Sight.{here_of}
use Rattle.mir_meaning.proofs.Sights.{lost, empty_there}
use Rattle.mir_meaning.proofs.here.Here.find.Goals as goal

pub returns-in_default-clause-place : goal.returns-in_default-clause-place
returns-in_default-clause-place c = lost (here_of c.args.self) (memory_of c.args.memory.now) c.args.place.now c.in_default.ensures.place

pub returns-in_default-part-clause-place : goal.returns-in_default-part-clause-place
returns-in_default-part-clause-place c =
    empty_there (here_of c.args.self) (memory_of c.args.memory.now) c.args.place.now (spot_of c.in-Some.spot) c.in-Some.ensures.place (sym (ap (option_map part_of) c.in_default-part.is) ∙ c.in-Some.ensures.part)
