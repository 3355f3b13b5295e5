use Rattle.pass_order.proofs.WithIds.{body_back}
use Rattle.pass_order.proofs.opt_laws.ids_come_back.Goals as goal

pub returns : goal.returns
returns c = body_back
