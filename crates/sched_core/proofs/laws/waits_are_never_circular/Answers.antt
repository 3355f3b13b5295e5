use Rattle.sched_core.proofs.Waiting.{no_circle}
use Rattle.sched_core.proofs.laws.waits_are_never_circular.Goals as goal

pub returns : goal.returns
returns c = λ p c w us l g. no_circle p c l g w us
