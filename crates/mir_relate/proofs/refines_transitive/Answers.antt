use Rattle.mir_relate.proofs.refines_transitive.Goals as goal
use Rattle.mir_relate.proofs.Refine.{refines_trans}

pub returns : goal.returns
returns c = refines_trans
