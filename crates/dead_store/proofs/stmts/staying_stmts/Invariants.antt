use Rattle.std.proofs.Common.{◌≡◌, List, map, drop, reverse, length, set}
use Rattle.mir_syntax.specs.Tree.{Tree}
use Rattle.mir_syntax.specs.Crate.{stmt_of}
use Rattle.bit_rows.specs.Rows.{row_at}
use Rattle.liveness.specs.Rows.{before_all}
use Rattle.dead_store.specs.Rounds.{staying}
use Rattle.mir_syntax.proofs.Taken.{Taken}
use Rattle.dead_store.proofs.stmts.staying_stmts.Given as goal

abbrev pub invariant-loop-stmt : goal.invariant-loop-stmt
invariant-loop-stmt l =
    Taken l.fn.stmts l.left
    × ((trees : List Tree) → l.live ≡ set l.fn.live l.row (before_all (map (stmt_of trees) (drop (length l.left) l.fn.stmts)) (row_at l.fn.live l.row)))
    × ((trees : List Tree) → l.kept.items ≡ reverse (staying trees (row_at l.lent 0) (row_at l.fn.live l.row) (drop (length l.left) l.fn.stmts)))

abbrev pub decreases-loop-stmt : goal.decreases-loop-stmt
decreases-loop-stmt l = length l.left
