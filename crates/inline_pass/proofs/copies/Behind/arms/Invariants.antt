use Rattle.std.proofs.Common.{◌≡◌, map, take}
use Rattle.mir_syntax.specs.Parts.{retargeted_arm}
use Rattle.inline_pass.specs.Code.{shifted}
use Rattle.inline_pass.proofs.copies.Behind.arms.Given as goal

abbrev pub invariant-loop-arm : goal.invariant-loop-arm
invariant-loop-arm l = l.copies ≡ map (retargeted_arm (shifted l.self.blocks)) (take l.arm-index l.arms)
