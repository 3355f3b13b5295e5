use Rattle.inline_pass.proofs.Asked.{asked_lent}
use Rattle.inline_pass.proofs.laws.asked_are_lent.Goals as goal

pub returns : goal.returns
returns c = λ C G f l within large lent qualifies asked stands. asked_lent C G f l within large lent qualifies asked stands
