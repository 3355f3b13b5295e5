use Rattle.sched_core.proofs.Start.{start_good}
use Rattle.sched_core.proofs.laws.new_core_is_good.Goals as goal

pub returns : goal.returns
returns c = start_good
