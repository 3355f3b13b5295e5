use Rattle.std.proofs.Common.{◌≡◌, set, take}
use Rattle.std.specs.List.{flat_map}
use Rattle.bit_rows.specs.Rows.{row_at, marked}
use Rattle.escape_info.specs.Borrowed.{bare_lent}
use Rattle.escape_info.proofs.mark_lent.Given as goal

abbrev pub invariant-loop-stmt : goal.invariant-loop-stmt
invariant-loop-stmt l = l.rows ≡ set l.fn.rows 0 (marked (row_at l.fn.rows 0) (flat_map bare_lent (take l.stmt-index l.stmts)))
