use Rattle.std.proofs.Common.{◌≡◌, ℕ, ◌<◌, false}
use Rattle.call_graph.specs.Search.{turns}
use Rattle.call_graph.proofs.cycles.some_turns.Given as goal

abbrev pub invariant-loop-block : goal.invariant-loop-block
invariant-loop-block l = (b : ℕ) → b < l.block → turns l.components l.sources b ≡ false
