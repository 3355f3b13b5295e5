use Rattle.inline_pass.proofs.Whole.{spliced_refines, refines_in_place}
use Rattle.inline_pass.proofs.laws.spliced_refines.Goals as goal

pub returns-clause-of_a_crate : goal.returns-clause-of_a_crate
returns-clause-of_a_crate c = spliced_refines

pub returns-clause-in_its_place : goal.returns-clause-in_its_place
returns-clause-in_its_place c = refines_in_place
