use Rattle.std.proofs.Common.{◌≡◌, ◌++◌, take}
use Rattle.mir_machine.specs.Seen.{code_in}
use Rattle.mir_machine.specs.Ends.{trace_in}
use Rattle.run_text.specs.RunText.{calls_text}
use Rattle.run_text.proofs.calls.put_calls.Given as goal

abbrev pub invariant-loop-call : goal.invariant-loop-call
invariant-loop-call l = l.out ≡ l.fn.out ++ calls_text (code_in l.program) (trace_in (take l.call-index l.calls))
