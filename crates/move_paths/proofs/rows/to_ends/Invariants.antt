use Rattle.std.proofs.Common.{List, true, map}
use Rattle.mir_syntax.specs.Tree.{Tree}
use Rattle.mir_syntax.specs.Crate.{block_of}
use Rattle.liveness.specs.Rows.{block_at}
use Rattle.move_paths.specs.Rows.{passed_stmts, each_unit}
use Rattle.move_paths.proofs.Ending.{Carried}
use Rattle.move_paths.proofs.rows.to_ends.Given as goal

abbrev pub invariant-loop-at : goal.invariant-loop-at
invariant-loop-at l = (trees : List Tree) → Carried (λ i. each_unit (passed_stmts true (block_at (map (block_of trees) l.blocks) i).stmts) l.units.places) l.initial.rows l.rows l.at
