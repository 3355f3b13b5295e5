use Rattle.std.proofs.Common.{◌≡◌, ℕ, ◌≤◌, ◌<◌, false, get_or}
use Rattle.flow_engine.proofs.worklist.first_from.Given as goal

abbrev pub invariant-loop-block : goal.invariant-loop-block
invariant-loop-block l = (b : ℕ) → l.from ≤ b → b < l.block → get_or l.waits b false ≡ false
