use Rattle.dest_prop.proofs.valid.Stays.{merged_stays_valid as stays_valid, merged_no_drops, merged_adds_no_call}
use Rattle.dest_prop.proofs.laws.merged_stays_valid.Goals as goal

pub returns-clause-valid : goal.returns-clause-valid
returns-clause-valid c = stays_valid

pub returns-clause-no_drops : goal.returns-clause-no_drops
returns-clause-no_drops c = merged_no_drops

pub returns-clause-calls : goal.returns-clause-calls
returns-clause-calls c = merged_adds_no_call
