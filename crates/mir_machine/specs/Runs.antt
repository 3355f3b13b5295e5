-- Runs, as the code has them.
use Rattle.std.specs.Prelude.{ℕ, zero, suc, List, map, Option, Some, None, Result, Ok, Err}
use Rattle.mir_syntax.specs.declared.program.Program.{Program}
use Rattle.mir_syntax.specs.declared.OutOfMemory.{OutOfMemory}
use Rattle.mir_semantics.specs.Step as sem
use Rattle.mir_semantics.specs.Step.{Code, Next, on, stop, fail, returned, aborted, no_answer, step}
use Rattle.mir_semantics.specs.Run as runs
use Rattle.mir_semantics.specs.Run.{Seen, Entry}
use Rattle.mir_meaning.specs.Views.{value_of}
use Rattle.mir_machine.specs.declared.machine.Machine.{Machine}
use Rattle.mir_machine.specs.declared.outcome.Outcome.{Outcome}
use Rattle.mir_machine.specs.declared.outcome.Outcome.TheVariants.{Going, Returned, Aborted, NoAnswer, Undefined}
use Rattle.mir_machine.specs.declared.state.EntryCall.{EntryCall}
use Rattle.mir_machine.specs.declared.state.State.{State}
use Rattle.mir_machine.specs.declared.state.Stepped.{Stepped}
use Rattle.mir_machine.specs.declared.state.Stepped.TheVariants as stepped
use Rattle.mir_machine.specs.declared.machine.Called.{Called}
use Rattle.mir_machine.specs.declared.runs.RunResult.{RunResult}
use Rattle.mir_machine.specs.Sound.{Sound}
use Rattle.mir_machine.specs.Seen.{state_in}
use Rattle.mir_machine.specs.Ends.{integer_in, trace_in}

abbrev pub entry_in : EntryCall → Entry
entry_in e = record { function = e.f.0; args = map value_of e.args }

-- what a run has come to
pub data Progress : Type 0 where
  going : sem.State → Progress
  ended : List sem.Called → sem.Outcome → Progress
  undefined : List sem.Called → Progress

abbrev pub come_to : List sem.Called → Option Next → Progress
come_to t None = undefined t
come_to t (Some (on s)) = going s
come_to t (Some (stop o)) = ended t o
come_to t (Some (fail t')) = undefined t'

-- one step on; a run that has stopped stays as it is
abbrev pub onward : Code → Progress → Progress
onward C (going s) = come_to s.trace (step C s)
onward C (ended t o) = ended t o
onward C (undefined t) = undefined t

-- so many steps on
abbrev pub so_far : Code → ℕ → Progress → Progress
so_far C zero x = x
so_far C (suc n) x = so_far C n (onward C x)

abbrev pub seen_of : Progress → Seen
seen_of (going s) = runs.going s.trace
seen_of (ended t o) = runs.ended t o
seen_of (undefined t) = runs.undefined t

abbrev pub seen_as : List Called → Outcome → Seen
seen_as calls Going = runs.going (trace_in calls)
seen_as calls (Returned v) = runs.ended (trace_in calls) (returned (value_of v))
seen_as calls (Aborted text ns) = runs.ended (trace_in calls) (aborted text (map integer_in ns))
seen_as calls NoAnswer = runs.ended (trace_in calls) no_answer
seen_as calls Undefined = runs.undefined (trace_in calls)

-- what a machine has come to
abbrev pub progress_in : Program → Machine → Outcome → Progress
progress_in p m Going = going (state_in p m)
progress_in p m (Returned v) = ended (trace_in m.trace) (returned (value_of v))
progress_in p m (Aborted text ns) = ended (trace_in m.trace) (aborted text (map integer_in ns))
progress_in p m NoAnswer = ended (trace_in m.trace) no_answer
progress_in p m Undefined = undefined (trace_in m.trace)

abbrev pub standing : Program → Machine → Result Outcome OutOfMemory → Result Progress OutOfMemory
standing p m (Ok o) = Ok (progress_in p m o)
standing p m (Err e) = Err e

-- what a run has come to; none is known where it is spent
abbrev pub standing_in : Program → State → Result Progress OutOfMemory
standing_in p s = standing p s.machine s.outcome

-- while it goes on, its frames are in order
abbrev pub IsSound : State → Type 0
IsSound s = Sound s.machine s.taken s.outcome

abbrev pub seen_in : RunResult → Seen
seen_in r = seen_as r.trace r.outcome

-- what a call of a step answers
abbrev pub answer_of : Result Progress OutOfMemory → Result Stepped OutOfMemory
answer_of (Ok (going s)) = Ok stepped.On
answer_of (Ok (ended t o)) = Ok stepped.Ended
answer_of (Ok (undefined t)) = Ok stepped.Undefined
answer_of (Err e) = Err e
