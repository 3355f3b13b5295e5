use Rattle.std.proofs.Common.{List, map}
use Rattle.mir_syntax.specs.Tree.{Tree}
use Rattle.mir_syntax.specs.Crate.{block_of}
use Rattle.liveness.specs.Rows.{IsTurned}
use Rattle.liveness.proofs.turned.turned_edges.Given as goal

abbrev pub invariant-loop-at : goal.invariant-loop-at
invariant-loop-at l = (trees : List Tree) → IsTurned (map (block_of trees) l.blocks) l.at l.edges
