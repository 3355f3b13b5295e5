use Rattle.std.proofs.Common.{◌≡◌, length}
use Rattle.std.specs.List.{list_any}
use Rattle.mir_validate.specs.Terms.{arm_goes_back}
use Rattle.mir_validate.proofs.terminator.an_arm_goes_back.Given as goal

abbrev pub invariant-arms : goal.invariant-arms
invariant-arms l = list_any arm_goes_back l.arms ≡ list_any arm_goes_back l.rest

abbrev pub decreases-arms : goal.decreases-arms
decreases-arms l = length l.rest
