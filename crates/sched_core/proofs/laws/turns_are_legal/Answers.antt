use Rattle.sched_core.proofs.Turns.{turn_legal}
use Rattle.sched_core.proofs.laws.turns_are_legal.Goals as goal

pub returns : goal.returns
returns c = λ p c w e l g lt. turn_legal p c l g w lt e
