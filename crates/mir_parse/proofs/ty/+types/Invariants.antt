use Rattle.std.proofs.Common.{◌≡◌, ◌+◌, ◌*◌, ◌≤◌, ℕ, suc, length}
use Rattle.mir_parse.specs.Types.{type_at, tuple_from}
use Rattle.mir_parse.proofs.ty.+types.Given as goal

abbrev pub decreases-read_parts : goal.decreases-read_parts
decreases-read_parts l = 5 * l.depth

abbrev pub decreases-read_parens : goal.decreases-read_parens
decreases-read_parens l = 5 * l.depth + 3

abbrev pub decreases-read_tuple : goal.decreases-read_tuple
decreases-read_tuple l = 5 * l.depth + 2

abbrev pub decreases-read_tuple_turn : goal.decreases-read_tuple_turn
decreases-read_tuple_turn l = 5 * l.depth + 1

abbrev pub invariant-read_tuple-turns : goal.invariant-read_tuple-turns
invariant-read_tuple-turns l =
    (turns : ℕ) × (length l.rest ≤ turns) × (length l.rest ≤ length l.symbols)
    × (tuple_from (type_at l.depth) (suc (length l.symbols)) l.initial.parts 1 l.symbols ≡ tuple_from (type_at l.depth) (suc turns) l.parts l.count l.rest)

abbrev pub decreases-read_tuple-turns : goal.decreases-read_tuple-turns
decreases-read_tuple-turns l = length l.rest

abbrev pub decreases-read_outer : goal.decreases-read_outer
decreases-read_outer l = 5 * l.depth + 4
