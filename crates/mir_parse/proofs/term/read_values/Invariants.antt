use Rattle.std.proofs.Common.{◌≡◌, ◌≤◌, ℕ, suc, length}
use Rattle.mir_parse.specs.Terms.{each_from, values_at, values_turn}
use Rattle.mir_parse.proofs.term.read_values.Given as goal

abbrev pub invariant-turns : goal.invariant-turns
invariant-turns l =
    (turns : ℕ) × (length l.rest ≤ turns) × (length l.rest ≤ length l.symbols) × (values_at l.symbols ≡ each_from values_turn (suc turns) l.values l.rest)

abbrev pub decreases-turns : goal.decreases-turns
decreases-turns l = length l.rest
