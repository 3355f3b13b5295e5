use Rattle.std.proofs.Common.{◌≡◌, set, take}
use Rattle.std.specs.List.{flat_map}
use Rattle.bit_rows.specs.Rows.{row_at, marked}
use Rattle.sroa_pass.specs.Code.{held_stmt}
use Rattle.sroa_pass.proofs.held.hold_stmts.Given as goal

abbrev pub invariant-loop-stmt : goal.invariant-loop-stmt
invariant-loop-stmt l = l.rows ≡ set l.fn.rows 0 (marked (row_at l.fn.rows 0) (flat_map held_stmt (take l.stmt-index l.stmts)))
