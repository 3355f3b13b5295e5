use Rattle.call_graph.proofs.Told.{in_order}
use Rattle.call_graph.proofs.asking.paths_are_in_order.Goals as goal

pub returns : goal.returns
returns c = λ C callees below. in_order C callees below
