use Rattle.std.proofs.Common.{◌≡◌, length}
use Rattle.mir_semantics.specs.Step.{take_arm}
use Rattle.mir_machine.proofs.arms.take_arm.Given as goal

abbrev pub invariant-loop-arm : goal.invariant-loop-arm
invariant-loop-arm l = take_arm l.bits l.arms l.otherwise ≡ take_arm l.bits l.initial.arms l.otherwise

abbrev pub decreases-loop-arm : goal.decreases-loop-arm
decreases-loop-arm l = length l.arms
