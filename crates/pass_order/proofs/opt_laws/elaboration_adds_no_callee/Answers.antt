use Rattle.pass_order.proofs.elab.Laid.{elab_calls}
use Rattle.pass_order.proofs.opt_laws.elaboration_adds_no_callee.Goals as goal

pub returns : goal.returns
returns c D b e is g k = elab_calls D b e is g.0 k
