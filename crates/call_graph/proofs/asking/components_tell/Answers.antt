use Rattle.call_graph.proofs.Told.{told}
use Rattle.call_graph.proofs.asking.components_tell.Goals as goal

pub returns : goal.returns
returns c = λ G component l k f g lt some. told G l component k f g lt some
