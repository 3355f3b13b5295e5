use Rattle.std.proofs.Common.{map, drop}
use Rattle.mir_syntax.specs.Tree.{at_id, trees_of}
use Rattle.mir_syntax.specs.Crate.{crate_of}
use Rattle.mir_syntax.specs.Shapes.{shapes_of}
use Rattle.move_paths.proofs.Listing.{Listed}
use Rattle.move_paths.proofs.units.units.Given as goal

abbrev pub invariant-loop-local : goal.invariant-loop-local
invariant-loop-local l = Listed (shapes_of (crate_of l.program)) (map (at_id (trees_of l.program.types)) l.body.locals) l.search l.spans l.local (map (at_id (trees_of l.program.types)) (drop l.local l.body.locals))
