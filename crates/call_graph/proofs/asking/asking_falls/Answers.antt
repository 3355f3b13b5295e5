use Rattle.call_graph.proofs.Falls.{weight_falls}
use Rattle.call_graph.proofs.Told.{not_itself}
use Rattle.call_graph.proofs.asking.asking_falls.Goals as goal

pub returns-clause-falls : goal.returns-clause-falls
returns-clause-falls c = λ G l f g lt a. weight_falls G l f g lt a

pub returns-clause-not_itself : goal.returns-clause-not_itself
returns-clause-not_itself c = λ G l f lt. not_itself G l f lt
