use Rattle.std.proofs.Common.{◌≡◌, ℕ, ◌+◌, ◌*◌, ◌<◌, get_or}
use Rattle.std.specs.Prelude.{bit_and}
use Rattle.bit_rows.proofs.kernel.blocks_meet.Given as goal

abbrev pub invariant-loop-block : goal.invariant-loop-block
invariant-loop-block l = (k : ℕ) → k < l.block * 8 → bit_and (get_or l.words (l.a + k) 0) (get_or l.words (l.b + k) 0) ≡ 0
