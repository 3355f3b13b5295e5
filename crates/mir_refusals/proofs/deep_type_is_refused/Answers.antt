use Rattle.mir_refusals.proofs.Deep.{deep-type}
use Rattle.mir_refusals.proofs.deep_type_is_refused.Goals as goal

pub returns : goal.returns
returns c = deep-type
