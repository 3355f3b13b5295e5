use Rattle.pass_order.proofs.compose.Rounds.{opt_bare, opt_refines}
use Rattle.pass_order.proofs.opt_laws.opt_crate_refines.Goals as goal

pub returns-clause-refines : goal.returns-clause-refines
returns-clause-refines c = opt_refines

pub returns-clause-valid : goal.returns-clause-valid
returns-clause-valid c C rules within tupled = (opt_bare C rules within tupled).stays.rules
