use Rattle.mir_resolve.proofs.FaultOrder.{noted_first, noted_swap}
use Rattle.mir_resolve.proofs.laws.faults_in_any_order.Goals as goal

pub returns-clause-first : goal.returns-clause-first
returns-clause-first c = noted_first

pub returns-clause-swap : goal.returns-clause-swap
returns-clause-swap c = noted_swap
