use Rattle.std.proofs.Common.{◌≡◌, map, take}
use Rattle.mir_rules.specs.BodyRules.{arm_value}
use Rattle.mir_validate.proofs.terminator.values_of.Given as goal

abbrev pub invariant-loop-arm : goal.invariant-loop-arm
invariant-loop-arm l = l.values.items ≡ map arm_value (take l.arm-index l.arms)
