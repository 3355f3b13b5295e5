use Rattle.mir_refusals.proofs.Unfit.{unfit-number}
use Rattle.mir_refusals.proofs.unfit_number_is_refused.Goals as goal

pub returns : goal.returns
returns c = unfit-number
