use Rattle.std.proofs.Common.{true}
use Rattle.sched_core.proofs.TestLaws.{lawful}
use Rattle.sched_core.proofs.tests.want_of_memory_ends_a_weave.Goals as goal

pub weave-requires-clause-jobs : goal.weave-requires-clause-jobs
weave-requires-clause-jobs g c κs = lawful true
