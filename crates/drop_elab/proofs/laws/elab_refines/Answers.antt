use Rattle.drop_elab.proofs.InPlace.{refines_crate, refines_in_place}
use Rattle.drop_elab.proofs.laws.elab_refines.Goals as goal

pub returns-clause-of_a_crate : goal.returns-clause-of_a_crate
returns-clause-of_a_crate c = refines_crate

pub returns-clause-in_its_place : goal.returns-clause-in_its_place
returns-clause-in_its_place c = refines_in_place
