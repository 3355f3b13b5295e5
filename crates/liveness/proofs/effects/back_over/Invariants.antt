use Rattle.std.proofs.Common.{◌≡◌, List, map, drop, set}
use Rattle.mir_syntax.specs.Tree.{Tree}
use Rattle.mir_syntax.specs.Crate.{stmt_of}
use Rattle.bit_rows.specs.Rows.{row_at}
use Rattle.liveness.specs.Rows.{before_all}
use Rattle.liveness.proofs.effects.back_over.Given as goal

abbrev pub invariant-loop-at : goal.invariant-loop-at
invariant-loop-at l = (trees : List Tree) → l.rows ≡ set l.fn.rows l.row (before_all (map (stmt_of trees) (drop l.at l.stmts)) (row_at l.fn.rows l.row))
