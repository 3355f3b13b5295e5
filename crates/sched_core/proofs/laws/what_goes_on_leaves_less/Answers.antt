use Rattle.sched_core.proofs.Falls.{falls}
use Rattle.sched_core.proofs.laws.what_goes_on_leaves_less.Goals as goal

pub returns : goal.returns
returns c = λ p c e l g. falls p c l g e
