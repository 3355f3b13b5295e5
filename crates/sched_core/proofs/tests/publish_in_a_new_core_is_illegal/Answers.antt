use Rattle.std.proofs.Common.{false}
use Rattle.sched_core.specs.TestJobs.{plan}
use Rattle.sched_core.proofs.TestJobs.{new_is_told}
use Rattle.sched_core.proofs.TestLaws.{lawful}
use Rattle.sched_core.proofs.tests.publish_in_a_new_core_is_illegal.Goals as goal

pub step-requires-clause-told : goal.step-requires-clause-told
step-requires-clause-told g c κs = new_is_told (plan false) c.in_ok-core.core 1 0 c.in_ok-core.ensures.1

pub new-requires-clause-jobs : goal.new-requires-clause-jobs
new-requires-clause-jobs g c κs = lawful false
