use Rattle.candidates.proofs.Ended.{lent_all, large_all}
use Rattle.candidates.proofs.asking.all_are_lent.Goals as goal

pub returns-clause-large : goal.returns-clause-large
returns-clause-large c = large_all

pub returns-clause-lent : goal.returns-clause-lent
returns-clause-lent c = lent_all
