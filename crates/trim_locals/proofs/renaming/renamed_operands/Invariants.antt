use Rattle.std.proofs.Common.{◌≡◌, ◌++◌, map, take, drop}
use Rattle.trim_locals.specs.Trimmed.{number_in, renamed_operand}
use Rattle.trim_locals.proofs.renaming.renamed_operands.Given as goal

abbrev pub invariant-loop-operand : goal.invariant-loop-operand
invariant-loop-operand l = l.operand-items ≡ map (renamed_operand (number_in l.numbers)) (take l.operand-index l.fn.operands) ++ drop l.operand-index l.fn.operands
