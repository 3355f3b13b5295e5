-- What holds of a run that goes on.
use Rattle.std.specs.Prelude.{ℕ, ◌≤◌, Bool, true, false, Result, Ok}
use Rattle.mir_syntax.specs.declared.OutOfMemory.{OutOfMemory}
use Rattle.mir_machine.specs.declared.machine.Machine.{Machine}
use Rattle.mir_machine.specs.declared.outcome.Outcome.{Outcome}
use Rattle.mir_machine.specs.declared.outcome.Outcome.TheVariants.{Going}
use Rattle.mir_machine.specs.Ordered.{Framed}

abbrev pub goes : Result Outcome OutOfMemory → Bool
goes (Ok Going) = true
goes _ = false

-- while a run goes on, its frames are in order, and it had no more frames than steps, beside the first
abbrev pub Sound : Machine → ℕ → Result Outcome OutOfMemory → Type 0
Sound m n (Ok Going) = Framed m × (m.last ≤ n)
Sound m n _ = Unit {0}
