-- The statements of a block that stay, kept from the last one on.
use Rattle.std.proofs.Common.{◌≡◌, refl, sym, ap, ◌∙◌, ℕ, Bool, true, false, cond, if◌then◌else◌, List, [], ◌∷◌, ◌++◌, map, reverse}
use Rattle.std.specs.List.{filter}
use Rattle.std.proofs.lemmas.List.{reverse-append}
use Rattle.mir_syntax.specs.declared.body.Stmt.{Stmt}
use Rattle.trim_locals.specs.Trimmed.{number_in}
use Rattle.trim_locals.specs.Code.{bare_stays, bare_renamed_stmt, bare_trimmed_stmts}

-- one statement more, or not
pub kept_more : (marks : List Bool) (numbers : List ℕ) (kept kept2 : List Stmt) (s : Stmt) (ss : List Stmt) → kept ≡ reverse (bare_trimmed_stmts marks numbers ss) → kept2 ≡ (if bare_stays marks s then kept ++ bare_renamed_stmt (number_in numbers) s ∷ [] else kept) → kept2 ≡ reverse (bare_trimmed_stmts marks numbers (s ∷ ss))
kept_more marks numbers kept kept2 s ss e h =
    h ∙ ap (λ xs. if bare_stays marks s then xs ++ bare_renamed_stmt (number_in numbers) s ∷ [] else xs) e ∙ turn (bare_stays marks s)
  where
    turn : (b : Bool) → (if b then reverse (bare_trimmed_stmts marks numbers ss) ++ bare_renamed_stmt (number_in numbers) s ∷ [] else reverse (bare_trimmed_stmts marks numbers ss)) ≡ reverse (map (bare_renamed_stmt (number_in numbers)) (cond b (s ∷ filter (bare_stays marks) ss) (filter (bare_stays marks) ss)))
    turn true = sym (reverse-append (bare_renamed_stmt (number_in numbers) s ∷ []) (bare_trimmed_stmts marks numbers ss))
    turn false = refl
