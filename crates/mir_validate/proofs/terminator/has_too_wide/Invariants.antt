use Rattle.std.proofs.Common.{◌≡◌, ◌^◌, nat_lt, not, map, length}
use Rattle.std.specs.List.{list_any}
use Rattle.mir_num.specs.Widths.{width_of}
use Rattle.mir_rules.specs.BodyRules.{arm_value}
use Rattle.mir_validate.proofs.terminator.has_too_wide.Given as goal

abbrev pub invariant-arms : goal.invariant-arms
invariant-arms l = list_any (λ v. not (nat_lt v (2 ^ width_of l.scalar))) (map arm_value l.arms) ≡ list_any (λ v. not (nat_lt v (2 ^ width_of l.scalar))) (map arm_value l.rest)

abbrev pub decreases-arms : goal.decreases-arms
decreases-arms l = length l.rest
