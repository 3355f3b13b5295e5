use Rattle.std.proofs.Common.{◌≡◌, ◌+◌, ◌*◌, ◌≤◌, ℕ, suc, length}
use Rattle.mir_items.specs.Decls.{scope_at, decls_from}
use Rattle.mir_items.proofs.decl.+decls.Given as goal

abbrev pub decreases-read_scope : goal.decreases-read_scope
decreases-read_scope l = 4 * l.depth

abbrev pub decreases-read_inner_scope : goal.decreases-read_inner_scope
decreases-read_inner_scope l = 4 * l.depth + 3

abbrev pub decreases-read_decl_turn : goal.decreases-read_decl_turn
decreases-read_decl_turn l = 4 * l.depth + 1

abbrev pub decreases-read_decls : goal.decreases-read_decls
decreases-read_decls l = 4 * l.depth + 2

abbrev pub invariant-read_decls-turns : goal.invariant-read_decls-turns
invariant-read_decls-turns l =
    (turns : ℕ) × (length l.rest ≤ turns) × (length l.rest ≤ length l.symbols)
    × (decls_from (scope_at l.lines l.depth) l.lines l.depth (suc (length l.symbols)) l.initial.lets l.symbols
    ≡ decls_from (scope_at l.lines l.depth) l.lines l.depth (suc turns) l.lets l.rest)

abbrev pub decreases-read_decls-turns : goal.decreases-read_decls-turns
decreases-read_decls-turns l = length l.rest
