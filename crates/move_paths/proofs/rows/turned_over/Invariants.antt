use Rattle.std.proofs.Common.{true, replicate}
use lib.Lanes.{zip2}
use Rattle.bit_rows.specs.Rows.{row_at, and_not}
use Rattle.liveness.specs.Rows.{blank}
use Rattle.liveness.proofs.Filling.{Filled}
use Rattle.move_paths.proofs.rows.turned_over.Given as goal

abbrev pub invariant-loop-row : goal.invariant-loop-row
invariant-loop-row l = Filled l.count l.row (λ r. zip2 and_not (replicate l.bits true) (row_at l.rows r)) (blank l.bits) l.made
