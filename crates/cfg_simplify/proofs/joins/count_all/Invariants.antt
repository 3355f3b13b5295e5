use Rattle.std.proofs.Common.{◌≡◌, take}
use Rattle.cfg_simplify.specs.Code.{counted}
use Rattle.cfg_simplify.proofs.joins.count_all.Given as goal

abbrev pub invariant-loop-block : goal.invariant-loop-block
invariant-loop-block l = l.counts ≡ counted l.fn.counts (take l.block-index l.ends)
