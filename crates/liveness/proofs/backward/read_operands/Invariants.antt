use Rattle.std.proofs.Common.{◌≡◌, set, take}
use Rattle.std.specs.List.{flat_map}
use Rattle.bit_rows.specs.Rows.{row_at, marked}
use Rattle.liveness.specs.Live.{operand_locals}
use Rattle.liveness.proofs.backward.read_operands.Given as goal

abbrev pub invariant-loop-operand : goal.invariant-loop-operand
invariant-loop-operand l = l.rows ≡ set l.fn.rows l.row (marked (row_at l.fn.rows l.row) (flat_map operand_locals (take l.operand-index l.operands)))
