use Rattle.pass_order.proofs.compose.Taken.{taken_is_of}
use Rattle.pass_order.proofs.opt_laws.lent_bodies_are_taken.Goals as goal

pub returns : goal.returns
returns c = taken_is_of
