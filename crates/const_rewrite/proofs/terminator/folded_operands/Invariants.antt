use Rattle.std.proofs.Common.{◌≡◌, ◌++◌, map, take, drop}
use Rattle.const_rewrite.specs.Folded.{folded_operand}
use Rattle.const_rewrite.specs.Points.{here, where_reached}
use Rattle.const_rewrite.proofs.terminator.folded_operands.Given as goal

abbrev pub invariant-loop-operand : goal.invariant-loop-operand
invariant-loop-operand l = l.operand-items ≡ map (where_reached (folded_operand (here l.text)) l.facts) (take l.operand-index l.fn.operands) ++ drop l.operand-index l.fn.operands
