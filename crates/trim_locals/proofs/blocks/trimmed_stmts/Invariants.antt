use Rattle.std.proofs.Common.{◌≡◌, drop, reverse, length}
use Rattle.bit_rows.specs.Rows.{row_at}
use Rattle.trim_locals.specs.Code.{bare_trimmed_stmts}
use Rattle.mir_syntax.proofs.Taken.{Taken}
use Rattle.trim_locals.proofs.blocks.trimmed_stmts.Given as goal

abbrev pub invariant-loop-stmt : goal.invariant-loop-stmt
invariant-loop-stmt l = Taken l.fn.stmts l.left × (l.kept.items ≡ reverse (bare_trimmed_stmts (row_at l.used 0) l.numbers (drop (length l.left) l.fn.stmts)))

abbrev pub decreases-loop-stmt : goal.decreases-loop-stmt
decreases-loop-stmt l = length l.left
