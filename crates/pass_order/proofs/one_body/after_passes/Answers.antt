use Rattle.pass_order.specs.Passes.{after_passes}
use Rattle.pass_order.proofs.one_body.after_passes.Goals as goal

pub returns-clause-passed : goal.returns-clause-passed
unfolding after_passes
returns-clause-passed c = c.after_all.ensures.passed
