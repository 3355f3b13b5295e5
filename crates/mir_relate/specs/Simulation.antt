-- How a run of a target follows a run of a source, one step of the source at a time. This project's own.
use Rattle.std.specs.Prelude.{◌≡◌, ◌⊎◌, ℕ, zero, suc, ◌<◌, Option, Some, None}
use Rattle.mir_semantics.specs.Step.{Code, State, Next, on, stop, fail, step}

abbrev pub keep_on : (State → Option State) → Option Next → Option State
keep_on f None = None
keep_on f (Some (on s)) = f s
keep_on f (Some (stop o)) = None
keep_on f (Some (fail t)) = None

-- so many steps, where all of them go on
abbrev pub moves : Code → ℕ → State → Option State
moves C zero s = Some s
moves C (suc k) s = keep_on (moves C k) (step C s)

-- what the target owes for a step of the source: nothing where that is undefined; where the source stops, some moves with no call and the same
-- stop; where it goes on, some moves to a state that is related again, and where there are none, a smaller number
abbrev pub Follows : Code → (ℕ → State → State → Type 0) → ℕ → State → Option Next → Type 0
Follows target R n s2 None = Unit {0}
Follows target R n s2 (Some (fail t)) = Unit {0}
Follows target R n s2 (Some (stop o)) = (k : ℕ) × (s : State) × (moves target k s2 ≡ Some s) × (step target s ≡ Some (stop o)) × (s.trace ≡ s2.trace)
Follows target R n s2 (Some (on s1)) = (k n' : ℕ) × (s : State) × (moves target k s2 ≡ Some s) × R n' s s1 × ((0 < k) ⊎ (n' < n))

-- a relation between states of the target and of the source, at a number that falls where the target stands still
pub record Simulation (target source : Code) (R : ℕ → State → State → Type 0) : Type 0 where
  pub same_trace : (n : ℕ) (s2 s1 : State) → R n s2 s1 → s2.trace ≡ s1.trace
  pub follows : (n : ℕ) (s2 s1 : State) → R n s2 s1 → Follows target R n s2 (step source s1)
