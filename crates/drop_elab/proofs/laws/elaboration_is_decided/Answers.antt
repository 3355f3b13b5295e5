use Rattle.drop_elab.proofs.Elaborated.{elaborated_is}
use Rattle.drop_elab.proofs.laws.elaboration_is_decided.Goals as goal

pub returns : goal.returns
returns c = elaborated_is
