use Rattle.std.proofs.Common.{◌≡◌, set, take}
use Rattle.std.specs.List.{flat_map}
use Rattle.bit_rows.specs.Rows.{row_at, marked}
use Rattle.liveness.specs.Rows.{bare_fills}
use Rattle.liveness.proofs.terminator.mark_all_filled.Given as goal

abbrev pub invariant-loop-stmt : goal.invariant-loop-stmt
invariant-loop-stmt l = l.rows ≡ set l.fn.rows l.row (marked (row_at l.fn.rows l.row) (flat_map bare_fills (take l.stmt-index l.stmts)))
