use Rattle.std.proofs.Common.{◌≡◌}
use Rattle.flow_engine.specs.Flow.{starts_to}
use Rattle.flow_engine.proofs.solver.starts.Given as goal

abbrev pub invariant-loop-block : goal.invariant-loop-block
invariant-loop-block g l = l.facts.items ≡ starts_to (g.A.Analysis.begun l.analysis) 0 l.block
