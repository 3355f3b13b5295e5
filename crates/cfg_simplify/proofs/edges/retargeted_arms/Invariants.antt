use Rattle.std.proofs.Common.{◌≡◌, ◌++◌, map, take, drop}
use Rattle.cfg_simplify.specs.Edges.{retarget_arm}
use Rattle.cfg_simplify.specs.Code.{at}
use Rattle.cfg_simplify.proofs.edges.retargeted_arms.Given as goal

abbrev pub invariant-loop-arm : goal.invariant-loop-arm
invariant-loop-arm l = l.arm-items ≡ map (retarget_arm (at l.numbers)) (take l.arm-index l.fn.arms) ++ drop l.arm-index l.fn.arms
