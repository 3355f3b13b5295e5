use Rattle.sched_core.proofs.Waiting.{read_is_done, stolen_is_free}
use Rattle.sched_core.proofs.laws.no_stolen_slot_is_read.Goals as goal

pub returns-clause-read : goal.returns-clause-read
returns-clause-read c = λ p c w s e es l g. read_is_done p c l g w s e es

pub returns-clause-stolen : goal.returns-clause-stolen
returns-clause-stolen c = λ p c w s e es l g. stolen_is_free p c l g w s e es
