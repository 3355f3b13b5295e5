use Rattle.std.proofs.Common.{◌≡◌, ◌<◌, ℕ, true, length}
use Rattle.sched_core.specs.State.{done}
use Rattle.sched_core.specs.Shown.{state_of}
use Rattle.sched_core.specs.Held.{Weaves}
use Rattle.sched_core.proofs.loom.Loom.finish.Given as goal

abbrev pub invariant-loop-i : goal.invariant-loop-i
invariant-loop-i g l =
    let p = g.J.Jobs.plan l.jobs in
    Weaves (g.J.Jobs.is_work l.jobs) (g.J.Jobs.given l.jobs) (g.J.Jobs.out l.jobs) p l.self.core l.self.works.items l.self.answers.items
    × (length l.self.core.borrow.items ≡ length l.initial.self.core.borrow.items)
    × ((i : ℕ) → i < l.i → done ((state_of l.self.core).status (p.root i)) ≡ true)
