use Rattle.cfg_simplify.proofs.laws.simple_refines.Goals as goal
use Rattle.cfg_simplify.proofs.refines.Refined.{of_a_crate, in_its_place}

pub returns-clause-of_a_crate : goal.returns-clause-of_a_crate
returns-clause-of_a_crate c = of_a_crate

pub returns-clause-in_its_place : goal.returns-clause-in_its_place
returns-clause-in_its_place c = in_its_place
