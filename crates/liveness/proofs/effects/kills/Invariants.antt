use Rattle.std.proofs.Common.{List, length}
use Rattle.mir_syntax.specs.Tree.{Tree}
use Rattle.mir_syntax.specs.Crate.{body_of}
use Rattle.liveness.specs.Rows.{blank, kill_row, block_at}
use Rattle.liveness.proofs.Filling.{Filled}
use Rattle.liveness.proofs.effects.kills.Given as goal

abbrev pub invariant-loop-at : goal.invariant-loop-at
invariant-loop-at l = (trees : List Tree) → Filled (length l.body.blocks) l.at (λ i. kill_row (body_of trees l.body).locals (block_at (body_of trees l.body).blocks i)) (blank (length l.body.locals)) l.rows
