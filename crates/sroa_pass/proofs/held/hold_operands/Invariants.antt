use Rattle.std.proofs.Common.{◌≡◌, set, take}
use Rattle.std.specs.List.{flat_map}
use Rattle.bit_rows.specs.Rows.{row_at, marked}
use Rattle.sroa_pass.specs.Code.{held_operand}
use Rattle.sroa_pass.proofs.held.hold_operands.Given as goal

abbrev pub invariant-loop-operand : goal.invariant-loop-operand
invariant-loop-operand l = l.rows ≡ set l.fn.rows 0 (marked (row_at l.fn.rows 0) (flat_map held_operand (take l.operand-index l.operands)))
