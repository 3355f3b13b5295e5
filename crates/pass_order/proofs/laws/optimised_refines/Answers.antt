use Rattle.pass_order.proofs.laws.optimised_refines.Goals as goal
use Rattle.pass_order.proofs.Crates.{optimised_refines as refined, optimised_valid, optimised_adds_no_call}

pub returns-clause-refines : goal.returns-clause-refines
returns-clause-refines c = refined

pub returns-clause-valid : goal.returns-clause-valid
returns-clause-valid c = optimised_valid

pub returns-clause-calls : goal.returns-clause-calls
returns-clause-calls c = optimised_adds_no_call
