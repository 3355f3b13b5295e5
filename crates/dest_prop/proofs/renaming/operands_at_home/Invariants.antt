use Rattle.std.proofs.Common.{◌≡◌, ◌++◌, map, take, drop}
use Rattle.bit_rows.specs.Rows.{row_at}
use Rattle.dest_prop.specs.Merged.{operand_home}
use Rattle.dest_prop.specs.Code.{home_in, shared_in}
use Rattle.dest_prop.proofs.renaming.operands_at_home.Given as goal

abbrev pub invariant-loop-operand : goal.invariant-loop-operand
invariant-loop-operand l = l.operand-items ≡ map (operand_home (shared_in (row_at l.shared 0)) (home_in l.homes)) (take l.operand-index l.fn.operands) ++ drop l.operand-index l.fn.operands
