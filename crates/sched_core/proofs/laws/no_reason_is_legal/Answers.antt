use Rattle.sched_core.proofs.Legality.{no_reason_legal, legal_no_reason}
use Rattle.sched_core.proofs.laws.no_reason_is_legal.Goals as goal

pub returns-clause-legal : goal.returns-clause-legal
returns-clause-legal c = no_reason_legal

pub returns-clause-none : goal.returns-clause-none
returns-clause-none c = legal_no_reason
