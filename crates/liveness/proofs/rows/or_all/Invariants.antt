use Rattle.std.proofs.Common.{◌≡◌, set, take}
use Rattle.bit_rows.specs.Rows.{row_at}
use Rattle.liveness.specs.Rows.{or_rows}
use Rattle.liveness.proofs.rows.or_all.Given as goal

abbrev pub invariant-loop-other : goal.invariant-loop-other
invariant-loop-other l = l.rows ≡ set l.fn.rows l.row (or_rows l.others (row_at l.fn.rows l.row) (take l.other-index l.from))
