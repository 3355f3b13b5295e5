use Rattle.std.proofs.Common.{refl}
use Rattle.query_plan.specs.Queries.{callees_of}
use Rattle.candidates.proofs.Ended.{needs_wanted, comes_first}
use Rattle.candidates.proofs.asking.needs_are_asked.Goals as goal

pub returns-clause-needs : goal.returns-clause-needs
returns-clause-needs c = needs_wanted

pub returns-clause-comes : goal.returns-clause-comes
returns-clause-comes c P is f lt w v fresh b = comes_first P is f lt w v (callees_of P f) refl fresh b
