use Rattle.sched_core.proofs.Ripe.{ripe_is}
use Rattle.sched_core.proofs.laws.ripeness_shows.Goals as goal

pub returns : goal.returns
returns c = λ p c w e es l g top. ripe_is p c l g w e es top
