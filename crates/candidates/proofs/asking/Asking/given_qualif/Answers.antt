use Rattle.candidates.proofs.Asked.{after_qualif}
use Rattle.candidates.proofs.asking.Asking.given_qualif.Goals as goal

pub returns-clause-goes_on : goal.returns-clause-goes_on
returns-clause-goes_on c P is f i p e = after_qualif P is f c.args.self.now c.args.g c.args.flag i p e
