use Rattle.drop_elab.proofs.OneResult.{one_elab}
use Rattle.drop_elab.proofs.laws.elab_is_one.Goals as goal

pub returns : goal.returns
returns c = one_elab
