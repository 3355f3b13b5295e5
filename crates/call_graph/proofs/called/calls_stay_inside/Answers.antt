use Rattle.call_graph.proofs.Inside.{all_inside}
use Rattle.call_graph.proofs.called.calls_stay_inside.Goals as goal

pub returns : goal.returns
returns c = λ C b h. all_inside C b h
