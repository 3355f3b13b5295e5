use Rattle.std.proofs.Common.{◌≡◌, ◌≤◌, ℕ, suc, length}
use Rattle.mir_parse.specs.Terms.{each_from, arms_at, arms_turn}
use Rattle.mir_parse.proofs.term.read_arms.Given as goal

abbrev pub invariant-turns : goal.invariant-turns
invariant-turns l =
    (turns : ℕ) × (length l.rest ≤ turns) × (length l.rest ≤ length l.symbols) × (arms_at l.symbols ≡ each_from arms_turn (suc turns) l.arms l.rest)

abbrev pub decreases-turns : goal.decreases-turns
decreases-turns l = length l.rest
