use Rattle.std.proofs.Common.{sym, ◌∙◌}
use Rattle.candidates.proofs.Asked.{reach_back, after_back, after_forth}
use Rattle.candidates.proofs.asking.Asking.given_reach.Goals as goal

pub returns-then-reached-clause-goes_on : goal.returns-then-reached-clause-goes_on
returns-then-reached-clause-goes_on c P is of i p e =
    let h = sym e ∙ c.if-reached.true in
    after_back P is c.args.f.0 c.args.self.now c.args.g i p c.enter.new.self h (c.enter.ensures.asks P is of (reach_back P is c.args.f.0 c.args.self.now c.args.g i p h))

pub returns-else-reached-clause-goes_on : goal.returns-else-reached-clause-goes_on
returns-else-reached-clause-goes_on c P is of i p e =
    after_forth P is c.args.f.0 c.args.self.now c.args.g i p (sym e ∙ c.if-reached.false)
