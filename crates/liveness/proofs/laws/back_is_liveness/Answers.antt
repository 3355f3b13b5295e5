use Rattle.liveness.proofs.laws.back_is_liveness.Goals as goal
use Rattle.liveness.proofs.CarriedBack.{carried_back}

pub returns : goal.returns
returns c = carried_back
