use Rattle.std.proofs.Common.{◌≡◌, map, take}
use Rattle.trim_locals.specs.Trimmed.{renamed_operand}
use Rattle.inline_pass.specs.Code.{shifted}
use Rattle.inline_pass.proofs.copies.Behind.operands.Given as goal

abbrev pub invariant-loop-operand : goal.invariant-loop-operand
invariant-loop-operand l = l.copies ≡ map (renamed_operand (shifted l.self.locals)) (take l.operand-index l.operands)
