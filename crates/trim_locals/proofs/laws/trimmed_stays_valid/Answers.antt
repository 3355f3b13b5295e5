use Rattle.trim_locals.proofs.laws.trimmed_stays_valid.Goals as goal
use Rattle.trim_locals.proofs.valid.Stays.{trimmed_stays_valid as stays_valid, trimmed_no_drops, trimmed_adds_no_call}

pub returns-clause-valid : goal.returns-clause-valid
returns-clause-valid c = stays_valid

pub returns-clause-no_drops : goal.returns-clause-no_drops
returns-clause-no_drops c = trimmed_no_drops

pub returns-clause-calls : goal.returns-clause-calls
returns-clause-calls c = trimmed_adds_no_call
