use Rattle.pass_order.proofs.laws.staged_refines.Goals as goal
use Rattle.pass_order.proofs.Staged.{staged_refines as refined, staged_valid, first_stage, last_stage}

pub returns-clause-refines : goal.returns-clause-refines
returns-clause-refines c = refined

pub returns-clause-valid : goal.returns-clause-valid
returns-clause-valid c = staged_valid

pub returns-clause-first : goal.returns-clause-first
returns-clause-first c = first_stage

pub returns-clause-last : goal.returns-clause-last
returns-clause-last c = last_stage
