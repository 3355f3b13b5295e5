use Rattle.std.proofs.Common.{◌≡◌, drop}
use Rattle.mir_semantics.specs.Step.{take_arm}
use Rattle.const_flow.proofs.effects.taken_arm.Given as goal

abbrev pub invariant-loop-arm : goal.invariant-loop-arm
invariant-loop-arm l = take_arm l.number (drop l.arm-index l.arms) l.other ≡ take_arm l.number l.arms l.other
