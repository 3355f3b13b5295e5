use Rattle.liveness.proofs.laws.liveness_is_decided.Goals as goal
use Rattle.liveness.proofs.Decided.{live_told, told_live}

pub returns : goal.returns
returns c = λ D b i n x k e l. ((λ h. told_live D b x i n h), λ h. live_told D b x i n k e l h)
