use Rattle.std.proofs.Common.{◌≡◌, drop, reverse, length}
use Rattle.bit_rows.specs.Rows.{row_at}
use Rattle.mir_syntax.proofs.Taken.{Taken}
use Rattle.dest_prop.specs.Code.{home_in, shared_in, bare_stmts_home}
use Rattle.dest_prop.proofs.merge.stmts_at_home.Given as goal

abbrev pub invariant-loop-stmt : goal.invariant-loop-stmt
invariant-loop-stmt l = Taken l.fn.stmts l.left × (l.kept.items ≡ reverse (bare_stmts_home (shared_in (row_at l.shared 0)) (home_in l.homes) (drop (length l.left) l.fn.stmts)))

abbrev pub decreases-loop-stmt : goal.decreases-loop-stmt
decreases-loop-stmt l = length l.left
