use Rattle.std.proofs.Common.{List}
use Rattle.mir_syntax.specs.Tree.{Tree}
use Rattle.bit_rows.specs.Rows.{row_at}
use Rattle.dead_store.proofs.equal.Going.{Going}
use Rattle.dead_store.proofs.blocks.pruned_blocks.Given as goal

abbrev pub invariant-loop-at : goal.invariant-loop-at
invariant-loop-at l = (trees : List Tree) → Going trees (row_at l.lent 0) l.fn.live l.fn.blocks l.block-items l.live l.at
