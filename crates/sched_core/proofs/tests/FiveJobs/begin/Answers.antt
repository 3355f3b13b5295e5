use Rattle.sched_core.proofs.TestJobs.{begun}
use Rattle.sched_core.proofs.tests.FiveJobs.begin.Goals as goal

pub returns : goal.returns
returns c = (begun c.args.self.now.far c.args._q c.new.result c.new-2.result c.new.ensures c.new-2.ensures, c.new.ensures)
