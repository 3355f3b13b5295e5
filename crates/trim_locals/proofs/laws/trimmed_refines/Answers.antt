use Rattle.trim_locals.proofs.laws.trimmed_refines.Goals as goal
use Rattle.trim_locals.proofs.refines.Refined.{trimmed_refines, trimmed_refines_in_place}

pub returns-clause-of_a_crate : goal.returns-clause-of_a_crate
returns-clause-of_a_crate c = trimmed_refines

pub returns-clause-in_its_place : goal.returns-clause-in_its_place
returns-clause-in_its_place c = trimmed_refines_in_place
