use Rattle.std.proofs.Common.{◌≡◌, ℕ, ◌≤◌, ◌<◌, false, get_or}
use Rattle.flow_engine.proofs.worklist.last_below.Given as goal

abbrev pub invariant-loop-block : goal.invariant-loop-block
invariant-loop-block l = (b : ℕ) → l.block ≤ b → b < l.end → get_or l.waits b false ≡ false
