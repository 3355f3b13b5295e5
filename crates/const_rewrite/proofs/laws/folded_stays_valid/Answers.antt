use Rattle.const_rewrite.proofs.valid.Same.{folded_stays_valid as stays_valid, folded_no_drops, folded_adds_no_call}
use Rattle.const_rewrite.proofs.laws.folded_stays_valid.Goals as goal

pub returns-clause-valid : goal.returns-clause-valid
returns-clause-valid c = stays_valid

pub returns-clause-no_drops : goal.returns-clause-no_drops
returns-clause-no_drops c = folded_no_drops

pub returns-clause-calls : goal.returns-clause-calls
returns-clause-calls c = folded_adds_no_call
