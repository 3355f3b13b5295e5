use Rattle.mir_relate.proofs.refines_reflexive.Goals as goal
use Rattle.mir_relate.proofs.Refine.{refines_refl}

pub returns : goal.returns
returns c = refines_refl
