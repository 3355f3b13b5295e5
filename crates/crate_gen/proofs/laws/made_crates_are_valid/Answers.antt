use Rattle.crate_gen.proofs.Rules.{valid}
use Rattle.crate_gen.proofs.Limits.{within}
use Rattle.crate_gen.proofs.laws.made_crates_are_valid.Goals as goal

pub returns-clause-valid : goal.returns-clause-valid
returns-clause-valid c = valid

pub returns-clause-within : goal.returns-clause-within
returns-clause-within c = within
