use Rattle.std.proofs.Common.{◌-◌, ◌≤◌}
use Rattle.mir_semantics.specs.Run as runs
use Rattle.mir_machine.specs.Seen.{code_in}
use Rattle.mir_machine.specs.Runs.{entry_in, IsSound}
use Rattle.mir_machine.proofs.Stepping.{Shows}
use Rattle.mir_machine.proofs.runs.run.Given as goal

abbrev pub invariant-loop-alloc : goal.invariant-loop-alloc
invariant-loop-alloc l = record {
  within : l.state.taken ≤ l.n;
  sound : IsSound l.state;
  same : Shows l.program (runs.run (code_in l.program) (entry_in l.entry) l.answers l.n) l.n l.state;
}

abbrev pub decreases-loop-alloc : goal.decreases-loop-alloc
decreases-loop-alloc l = l.n - l.state.taken
