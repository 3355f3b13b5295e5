use Rattle.sched_core.proofs.Progress.{goes_on}
use Rattle.sched_core.proofs.laws.some_turn_goes_on.Goals as goal

pub returns : goal.returns
returns c = λ p c i l g clean lt some_worker open_root. goes_on p c l g clean i lt some_worker open_root
