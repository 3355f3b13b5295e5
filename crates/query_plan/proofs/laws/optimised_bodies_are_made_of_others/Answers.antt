use Rattle.query_plan.proofs.Outs.{opt_is}
use Rattle.query_plan.proofs.laws.optimised_bodies_are_made_of_others.Goals as goal

pub returns : goal.returns
returns c P l f lt = opt_is P l f lt
