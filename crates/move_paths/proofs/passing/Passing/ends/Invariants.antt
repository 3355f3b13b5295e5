use Rattle.std.proofs.Common.{List, length}
use Rattle.mir_syntax.specs.Tree.{Tree}
use Rattle.mir_syntax.specs.Crate.{body_of}
use Rattle.liveness.specs.Rows.{blank, block_at}
use Rattle.liveness.proofs.Filling.{Filled}
use Rattle.move_paths.specs.Rows.{end_row}
use Rattle.move_paths.proofs.passing.Passing.ends.Given as goal

abbrev pub invariant-loop-at : goal.invariant-loop-at
invariant-loop-at l = (trees : List Tree) → Filled (length l.body.blocks) l.at (λ i. end_row l.self.status l.self.units.now.places (block_at (body_of trees l.body).blocks i)) (blank (length l.self.units.now.places)) l.rows
