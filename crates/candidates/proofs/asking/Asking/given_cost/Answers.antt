use Rattle.std.proofs.Common.{refl}
use Rattle.candidates.proofs.Asked.{cost_came, after_cost}
use Rattle.candidates.proofs.asking.Asking.given_cost.Goals as goal

pub returns-clause-goes_on : goal.returns-clause-goes_on
returns-clause-goes_on c P is of i p e = after_cost P is c.args.f.0 c.args.self.now c.enter.new.self p (c.enter.ensures.asks P is of (cost_came P is c.args.f.0 c.args.self.now _ c.args.cost i p refl e))
