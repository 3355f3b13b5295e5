use Rattle.jump_threading.proofs.valid.Kept.{threaded_stays_valid as stays_valid, threaded_no_drops, threaded_adds_no_call}
use Rattle.jump_threading.proofs.laws.threaded_stays_valid.Goals as goal

pub returns-clause-valid : goal.returns-clause-valid
returns-clause-valid c = stays_valid

pub returns-clause-no_drops : goal.returns-clause-no_drops
returns-clause-no_drops c = threaded_no_drops

pub returns-clause-calls : goal.returns-clause-calls
returns-clause-calls c = threaded_adds_no_call
