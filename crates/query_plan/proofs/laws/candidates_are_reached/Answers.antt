use Rattle.call_graph.proofs.Told.{not_itself}
use Rattle.query_plan.specs.Queries.{graph}
use Rattle.query_plan.proofs.Calls.{cand_reached, asks_of_cand}
use Rattle.query_plan.proofs.Needs.{cands_below}
use Rattle.query_plan.proofs.laws.candidates_are_reached.Goals as goal

pub returns-clause-not_itself : goal.returns-clause-not_itself
returns-clause-not_itself c P l f lt = not_itself (graph P) l f lt

pub returns-clause-below : goal.returns-clause-below
returns-clause-below c P is f g h = cands_below P is f g h

pub returns-clause-reached : goal.returns-clause-reached
returns-clause-reached c P is f g h = cand_reached P is f g h

pub returns-clause-asked : goal.returns-clause-asked
returns-clause-asked c P is f g h = asks_of_cand P is f g h
