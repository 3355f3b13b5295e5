use Rattle.mir_refusals.proofs.Large.{large-local}
use Rattle.mir_refusals.proofs.large_local_is_refused.Goals as goal

pub returns : goal.returns
returns c = large-local
