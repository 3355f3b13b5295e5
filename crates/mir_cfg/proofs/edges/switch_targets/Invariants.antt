use Rattle.std.proofs.Common.{◌≡◌, map, take}
use Rattle.mir_syntax.specs.Parts.{arm_block}
use Rattle.mir_cfg.proofs.edges.switch_targets.Given as goal

abbrev pub invariant-loop-arm : goal.invariant-loop-arm
invariant-loop-arm l = l.list.items ≡ map arm_block (take l.arm-index l.arms)
