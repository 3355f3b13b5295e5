use Rattle.std.proofs.Common.{length, map, drop}
use Rattle.bit_rows.specs.Rows.{flag}
use Rattle.mir_syntax.specs.Tree.{at_id, trees_of}
use Rattle.mir_syntax.specs.Crate.{crate_of}
use Rattle.mir_syntax.specs.Shapes.{shapes_of}
use Rattle.place_map.specs.Tracked.{most_tracked}
use Rattle.place_map.proofs.Gathering.{IsOnTheWay}
use Rattle.place_map.proofs.scalars.paths.Given as goal

abbrev pub invariant-loop-local : goal.invariant-loop-local
invariant-loop-local l =
    IsOnTheWay (shapes_of (crate_of l.program)) (flag l.taken 0) (map (at_id (trees_of l.program.types)) l.body.locals) (most_tracked (length l.body.blocks)) l.found l.local (map (at_id (trees_of l.program.types)) (drop l.local l.body.locals))
