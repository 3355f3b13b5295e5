use Rattle.sched_core.proofs.TestLaws.{lawful}
use Rattle.sched_core.proofs.tests.every_schedule_gives_the_same_answers.Goals as goal

pub weave-requires-clause-jobs : goal.weave-requires-clause-jobs
weave-requires-clause-jobs g c κs = lawful _
