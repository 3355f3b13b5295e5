use Rattle.pass_order.proofs.compose.Tables.{bodies_tupled}
use Rattle.pass_order.proofs.opt_laws.bodies_are_tupled.Goals as goal

pub returns : goal.returns
returns c = bodies_tupled
