use Rattle.std.proofs.Common.{◌≡◌, ◌++◌, map, take, drop}
use Rattle.sroa_pass.specs.Code.{put_operand}
use Rattle.sroa_pass.proofs.places.put_operands.Given as goal

abbrev pub invariant-loop-operand : goal.invariant-loop-operand
invariant-loop-operand l = l.operand-items ≡ map (put_operand l.table) (take l.operand-index l.fn.operands) ++ drop l.operand-index l.fn.operands
