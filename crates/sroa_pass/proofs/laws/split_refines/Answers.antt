use Rattle.sroa_pass.proofs.refines.Refined.{of_a_crate, in_its_place}
use Rattle.sroa_pass.proofs.laws.split_refines.Goals as goal

pub returns-clause-of_a_crate : goal.returns-clause-of_a_crate
returns-clause-of_a_crate c = of_a_crate

pub returns-clause-in_its_place : goal.returns-clause-in_its_place
returns-clause-in_its_place c = in_its_place
