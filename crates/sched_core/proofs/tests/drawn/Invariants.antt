use Rattle.std.proofs.Common.{◌<◌, All}
use Rattle.sched_core.proofs.tests.drawn.Given as goal

abbrev pub invariant-loop : goal.invariant-loop
invariant-loop l = All (λ w. w < l.workers) l.schedule
