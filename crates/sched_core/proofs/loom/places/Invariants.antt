use Rattle.std.proofs.Common.{◌≡◌, ℕ, length}
use Rattle.std.specs.Prelude.{slice_get}
use Rattle.sched_core.proofs.Weaving.{IsNone}
use Rattle.sched_core.proofs.loom.places.Given as goal

abbrev pub invariant-loop : goal.invariant-loop
invariant-loop g l = (length l.places.items ≡ l.counter) × ((w : ℕ) → IsNone (slice_get l.places.items w))
