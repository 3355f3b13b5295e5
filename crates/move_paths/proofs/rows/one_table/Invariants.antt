use Rattle.std.proofs.Common.{[], length, get_or}
use Rattle.bit_rows.specs.Rows.{row_at}
use Rattle.liveness.specs.Rows.{blank}
use Rattle.liveness.proofs.Filling.{Filled}
use Rattle.move_paths.proofs.rows.one_table.Given as goal

abbrev pub invariant-loop-at : goal.invariant-loop-at
invariant-loop-at l = Filled (length l.rows) l.at (λ r. row_at (get_or l.rows r []) 0) (blank l.bits) l.table
