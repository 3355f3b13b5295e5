use Rattle.std.proofs.Common.{◌≡◌, ◌++◌, length}
use Rattle.sched_core.specs.Shown.{state_of}
use Rattle.sched_core.specs.Held.{Weaves}
use Rattle.sched_core.specs.Work.{trail_of}
use Rattle.sched_core.proofs.Weaving.{rest_of}
use Rattle.sched_core.proofs.loom.Loom.follow.Given as goal

abbrev pub invariant-loop-w : goal.invariant-loop-w
invariant-loop-w g l =
    let p = g.J.Jobs.plan l.jobs in
    Weaves (g.J.Jobs.is_work l.jobs) (g.J.Jobs.given l.jobs) (g.J.Jobs.out l.jobs) p l.self.core l.self.works.items l.self.answers.items
    × (length l.self.core.borrow.items ≡ length l.initial.self.core.borrow.items)
    × (trail_of p (state_of l.initial.self.core) l.schedule ≡ l.trail ++ trail_of p (state_of l.self.core) (rest_of l.w-index l.schedule))
