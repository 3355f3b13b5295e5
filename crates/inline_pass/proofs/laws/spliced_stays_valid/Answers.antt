use Rattle.inline_pass.proofs.Whole.{valid_in_place}
use Rattle.inline_pass.proofs.Terms.{spliced_no_drops, spliced_calls}
use Rattle.inline_pass.proofs.laws.spliced_stays_valid.Goals as goal

pub returns-clause-valid : goal.returns-clause-valid
returns-clause-valid c = valid_in_place

pub returns-clause-no_drops : goal.returns-clause-no_drops
returns-clause-no_drops c = spliced_no_drops

pub returns-clause-calls : goal.returns-clause-calls
returns-clause-calls c = spliced_calls
