use Rattle.std.proofs.Common.{◌<◌, length}
use Rattle.cfg_simplify.proofs.equal.Terms.{switch_arms, switch_last}
use Rattle.cfg_simplify.proofs.edges.retargeted.Goals as goal

pub retargeted_arms-arms-requires : goal.retargeted_arms-arms-requires
retargeted_arms-arms-requires c = switch_arms (λ b. b < length c.args.numbers.now) _ _ _ _ c.in-Switch.is c.requires

pub bounds-numbers-block-in-Switch : goal.bounds-numbers-block-in-Switch
bounds-numbers-block-in-Switch c = switch_last (λ b. b < length c.args.numbers.now) _ _ _ _ c.in-Switch.is c.requires
