use Rattle.std.proofs.Common.{◌≡◌, length}
use Rattle.sched_core.specs.Shown.{state_of}
use Rattle.sched_core.specs.Held.{Weaves, RootsStay}
use Rattle.sched_core.specs.Work.{work_left}
use Rattle.sched_core.proofs.loom.Loom.work_on.Given as goal

abbrev pub invariant-loop-self : goal.invariant-loop-self
invariant-loop-self g l =
    let p = g.J.Jobs.plan l.jobs in
    Weaves (g.J.Jobs.is_work l.jobs) (g.J.Jobs.given l.jobs) (g.J.Jobs.out l.jobs) p l.self.core l.self.works.items l.self.answers.items
    × (length l.self.core.borrow.items ≡ length l.initial.self.core.borrow.items)
    × RootsStay p (state_of l.initial.self.core) (state_of l.self.core)

abbrev pub decreases-loop-self : goal.decreases-loop-self
decreases-loop-self g l = work_left (g.J.Jobs.plan l.jobs) (state_of l.self.core)
