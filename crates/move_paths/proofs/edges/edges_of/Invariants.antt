use Rattle.std.proofs.Common.{List, map, IsTrue}
use Rattle.mir_syntax.specs.Tree.{Tree}
use Rattle.mir_syntax.specs.Crate.{block_of}
use Rattle.bit_rows.specs.Rows.{flag}
use Rattle.move_paths.specs.Rows.{IsOnward}
use Rattle.move_paths.proofs.edges.edges_of.Given as goal

abbrev pub invariant-loop-at : goal.invariant-loop-at
invariant-loop-at l = (trees : List Tree) → IsOnward (λ a. IsTrue (flag l.reached 0 a)) (map (block_of trees) l.blocks) l.at l.edges
