use Rattle.sched_core.proofs.Keeps.{legal_keeps}
use Rattle.sched_core.proofs.laws.events_keep_good.Goals as goal

pub returns : goal.returns
returns c = legal_keeps
