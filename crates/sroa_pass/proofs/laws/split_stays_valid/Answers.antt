use Rattle.sroa_pass.proofs.valid.Body.{split_stays_valid as stays_valid, split_no_drops, split_adds_no_call}
use Rattle.sroa_pass.proofs.laws.split_stays_valid.Goals as goal

pub returns-clause-valid : goal.returns-clause-valid
returns-clause-valid c = stays_valid

pub returns-clause-no_drops : goal.returns-clause-no_drops
returns-clause-no_drops c = split_no_drops

pub returns-clause-calls : goal.returns-clause-calls
returns-clause-calls c = split_adds_no_call
