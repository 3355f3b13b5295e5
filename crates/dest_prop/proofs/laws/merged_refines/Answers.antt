use Rattle.dest_prop.proofs.refines.Refined.{of_a_crate, in_its_place}
use Rattle.dest_prop.proofs.laws.merged_refines.Goals as goal

pub returns-clause-of_a_crate : goal.returns-clause-of_a_crate
returns-clause-of_a_crate c = of_a_crate

pub returns-clause-in_its_place : goal.returns-clause-in_its_place
returns-clause-in_its_place c = in_its_place
