use Rattle.std.proofs.Common.{true}
use Rattle.move_paths.proofs.Fill.{FillsTo}
use Rattle.move_paths.proofs.rows.full_row.Given as goal

abbrev pub invariant-loop-bit : goal.invariant-loop-bit
invariant-loop-bit l = FillsTo l.bits l.bit (λ k. true) l.row
