-- How the steps of a machine end.
use Rattle.std.specs.Prelude.{ℕ, List, ◌∷◌, slice_get, map, reverse, ℤ, pos, neg_ℤ, if◌then◌else◌, Bool, true, ◌&&◌, Option, Result, Ok, Err}
use Rattle.mir_syntax.specs.declared.number.Number.{Number}
use Rattle.mir_syntax.specs.declared.program.Program.{Program}
use Rattle.mir_syntax.specs.Tree.{Tree}
use Rattle.mir_syntax.specs.Shapes.{Shape, ◌>>=◌}
use Rattle.mir_semantics.specs.Values.{Value}
use Rattle.mir_semantics.specs.Memory.{close_frame}
use Rattle.mir_semantics.specs.Step as sem
use Rattle.mir_semantics.specs.Step.{Next, on, stop, fail, returned, aborted, no_answer}
use Rattle.mir_meaning.specs.declared.stop.Stop.{Stop}
use Rattle.mir_meaning.specs.declared.stop.Stop.TheVariants as stops
use Rattle.mir_meaning.specs.Views.{value_of}
use Rattle.mir_machine.specs.declared.machine.Called.{Called}
use Rattle.mir_machine.specs.declared.machine.Machine.{Machine}
use Rattle.mir_machine.specs.declared.outcome.Outcome.{Outcome}
use Rattle.mir_machine.specs.declared.outcome.Outcome.TheVariants.{Going, Returned, Aborted, NoAnswer, Undefined}
use Rattle.mir_machine.specs.Seen.{called_as, state_in}

-- the integer of a sign and a size
abbrev pub integer_in : Number → ℤ
integer_in n = if n.negative then neg_ℤ (pos n.size) else pos n.size

-- the newest call stands first there
abbrev pub trace_in : List Called → List sem.Called
trace_in calls = map called_as (reverse calls)

-- what a step has led to, where the machine is as it is after it
abbrev pub next_in : Program → Machine → Outcome → Next
next_in p m Going = on (state_in p m)
next_in p m (Returned v) = stop (returned (value_of v))
next_in p m (Aborted text ns) = stop (aborted text (map integer_in ns))
next_in p m NoAnswer = stop no_answer
next_in p m Undefined = fail (trace_in m.trace)

-- where a step ends a run, or is undefined with no call of its own, something stays as it was
abbrev pub Stays : Result Outcome Stop → Type 0 → Type 0
Stays (Ok Going) same = Unit {0}
Stays (Ok Undefined) same = Unit {0}
Stays (Ok (Returned v)) same = same
Stays (Ok (Aborted text ns)) same = same
Stays (Ok NoAnswer) same = same
Stays (Err stops.Undefined) same = same
Stays (Err stops.OutOfMemory) same = Unit {0}

-- the frame on top has ended with a value: its caller gets it, or the run ends
abbrev pub returned_to : List Shape → sem.State → Value → Option Next
returned_to D s v = sem.return_to D s s.memory s.top.dest s.callers v

-- the frame on top ends
abbrev pub frame_ended : List Shape → sem.State → Option Next
frame_ended D s = sem.read_at s.memory (sem.local_addr s.top.frame 0) >>= λ v. sem.return_to D s (close_frame s.memory s.top.frame) s.top.dest s.callers v

-- a call of an outside function, with its answer
abbrev pub told : List Shape → sem.State → sem.Called → sem.Dest → Value → Option Next
told D s called d v = sem.answered (sem.calling s (called ∷ s.trace) s.answers) s.top (sem.store D s.memory d v)

abbrev pub asked : List Shape → sem.State → sem.Dest → ℕ → List ℕ → Tree → Option Next
asked D s d o args t = sem.ask D s s.memory s.top d o args t s.answers

abbrev pub outside_called : sem.Code → sem.State → sem.Dest → ℕ → List Value → Option Next
outside_called C s d o args = do
  out ← slice_get C.outsides o
  ns ← sem.numbers_in args
  asked C.shapes s d o ns out.result
