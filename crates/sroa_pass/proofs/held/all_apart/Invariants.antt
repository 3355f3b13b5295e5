use Rattle.std.proofs.Common.{◌≡◌, drop}
use Rattle.std.specs.List.{list_all}
use Rattle.sroa_pass.specs.Code.{operand_apart}
use Rattle.sroa_pass.proofs.held.all_apart.Given as goal

abbrev pub invariant-loop-operand : goal.invariant-loop-operand
invariant-loop-operand l = list_all (operand_apart l.local) (drop l.operand-index l.operands) ≡ list_all (operand_apart l.local) l.operands
