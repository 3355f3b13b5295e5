-- Who waits for whom.
use Rattle.std.specs.Prelude.{◌≡◌, ℕ, List, [], ◌∷◌, Some}
use Rattle.sched_core.specs.declared.Status.TheVariants.{Claimed}
use Rattle.sched_core.specs.State.{State}

-- w waits for a query that stands in the stack of v
abbrev pub WaitsFor : State → ℕ → ℕ → Type 0
WaitsFor c w v = (q : ℕ) × (c.wait w ≡ Some q) × (c.status q ≡ Claimed v)

-- w waits for the first of these workers, each for the next, and the last for v
abbrev pub Chain : State → ℕ → List ℕ → ℕ → Type 0
Chain c w [] v = WaitsFor c w v
Chain c w (u ∷ us) v = WaitsFor c w u × Chain c u us v
