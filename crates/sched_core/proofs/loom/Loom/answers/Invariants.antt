use Rattle.std.proofs.Common.{◌≡◌, ◌<◌, ◌≤◌, ◌-◌, ◌++◌, ℕ, length}
use Rattle.std.specs.Prelude.{Some, slice_get}
use Rattle.sched_core.specs.Held.{roots_answers}
use Rattle.sched_core.proofs.loom.Loom.answers.Given as goal

abbrev pub invariant-loop-i : goal.invariant-loop-i
invariant-loop-i g l =
    let p = g.J.Jobs.plan l.jobs in
    let out = g.J.Jobs.out l.jobs in
    (length l.places.items ≡ p.queries)
    × ((k : ℕ) → l.i ≤ k → k < p.roots → slice_get l.places.items (p.root k) ≡ Some (Some (out (p.root k))))
    × (roots_answers out p 0 p.roots ≡ l.answers ++ roots_answers out p l.i (p.roots - l.i))
