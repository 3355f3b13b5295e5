use Rattle.query_plan.specs.Queries.{graph}
use Rattle.query_plan.proofs.Ordered.{asked_before, next_is}
use Rattle.query_plan.proofs.laws.bodies_in_order.Goals as goal

pub returns-clause-asked : goal.returns-clause-asked
returns-clause-asked c P component place l is o f g lt a = asked_before (graph P) component place l is o f g lt a

pub returns-clause-candidates : goal.returns-clause-candidates
returns-clause-candidates c P component place l is o f bodies lt done = (next_is P component place bodies l is o f lt done).1

pub returns-clause-next : goal.returns-clause-next
returns-clause-next c P component place l is o f bodies lt done = (next_is P component place bodies l is o f lt done).0
