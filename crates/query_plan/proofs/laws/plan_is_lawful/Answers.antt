use Rattle.query_plan.specs.Needs.{needs_of}
use Rattle.query_plan.proofs.Members.{once_is}
use Rattle.query_plan.proofs.Lawful.{lawful}
use Rattle.query_plan.proofs.Once.{needs_once}
use Rattle.query_plan.proofs.laws.plan_is_lawful.Goals as goal

pub returns-clause-lawful : goal.returns-clause-lawful
returns-clause-lawful c P is = lawful P is

pub returns-clause-once : goal.returns-clause-once
returns-clause-once c P is k f lt = once_is (needs_of P k f) (needs_once P is k f lt)
