use Rattle.pass_order.proofs.laws.one_result.Goals as goal
use Rattle.pass_order.proofs.Order.{one_result as law}

pub returns : goal.returns
returns c = law
