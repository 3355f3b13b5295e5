use Rattle.drop_elab.proofs.InPlace.{valid_crate, valid_in_place, valid_where_few, calls_in_place}
use Rattle.drop_elab.proofs.laws.elab_stays_valid.Goals as goal

pub returns-clause-of_a_crate : goal.returns-clause-of_a_crate
returns-clause-of_a_crate c = valid_crate

pub returns-clause-in_its_place : goal.returns-clause-in_its_place
returns-clause-in_its_place c = valid_in_place

pub returns-clause-calls : goal.returns-clause-calls
returns-clause-calls c = calls_in_place

pub returns-clause-of_few_drops : goal.returns-clause-of_few_drops
returns-clause-of_few_drops c = valid_where_few
