-- Runs: steps from an entry on, as many as are asked for or until the run stops. This project's own.
use Rattle.std.specs.Prelude.{ℕ, zero, suc, List, [], ◌∷◌, Option, Some, None, slice_get}
use Rattle.mir_syntax.specs.Crate.{TypedBody}
use Rattle.mir_semantics.specs.Values.{Value}
use Rattle.mir_semantics.specs.Step.{Code, Called, State, Outcome, Next, on, stop, fail, step, new_slots}

-- what is seen of a run, with its trace
pub data Seen : Type 0 where
  going : List Called → Seen
  ended : List Called → Outcome → Seen
  undefined : List Called → Seen

abbrev pub after : (State → Seen) → List Called → Option Next → Seen
after more t None = undefined t
after more t (Some (on s)) = more s
after more t (Some (stop o)) = ended t o
after more t (Some (fail t')) = undefined t'

-- so many steps, or as many as there are
abbrev pub steps : Code → ℕ → State → Seen
steps C zero s = going s.trace
steps C (suc n) s = after (steps C n) s.trace (step C s)

-- a function that is called from outside, with its arguments
pub record Entry : Type 0 where
  pub function : ℕ
  pub args : List Value

abbrev pub slots_at : Code → List Value → Option TypedBody → List Value
slots_at C args None = []
slots_at C args (Some b) = new_slots C.shapes b.locals args

abbrev pub start : Code → Entry → List ℕ → State
start C e answers = record { memory = record { frame = 0; slots = slots_at C e.args (slice_get C.bodies e.function) } ∷ []; top = record { function = e.function; frame = 0; block = 0; at = 0; dropping = None; dest = None }; callers = []; next = 1; answers = answers; trace = [] }

-- what is seen after so many steps from an entry, with these answers of the outside functions
abbrev pub run : Code → Entry → List ℕ → ℕ → Seen
run C e answers n = steps C n (start C e answers)
