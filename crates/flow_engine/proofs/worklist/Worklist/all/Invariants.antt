use Rattle.std.proofs.Common.{◌≡◌, true, replicate}
use Rattle.flow_engine.proofs.worklist.Worklist.all.Given as goal

abbrev pub invariant-loop : goal.invariant-loop
invariant-loop l = l.waits.items ≡ replicate l.counter true
