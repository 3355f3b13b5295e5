-- The statements of a block that stay, found from the last one on.
use Rattle.std.proofs.Common.{◌≡◌, refl, sym, ap, ◌∙◌, subst, ℕ, ◌<◌, Bool, true, false, if◌then◌else◌, List, [], ◌∷◌, ◌++◌, map, drop, reverse, length, set, arith}
use Rattle.std.specs.List.{All, Contains}
use Rattle.std.proofs.lemmas.List.{reverse-append, get_or-set_same, length-set}
use Rattle.std.proofs.lemmas.List.Elements.{All-contains, Contains-append_right}
use Rattle.mir_syntax.specs.declared.body.Stmt.{Stmt}
use Rattle.mir_syntax.specs.Tree.{Tree}
use Rattle.mir_syntax.specs.Crate.{stmt_of}
use Rattle.mir_syntax.proofs.Taken.{Taken, taken_whole}
use Rattle.bit_rows.specs.Rows.{row_at}
use Rattle.liveness.specs.Rows.{before_stmt, before_all}
use Rattle.liveness.proofs.Carried.{row_then}
use Rattle.liveness.proofs.Through.{length-before_all}
use Rattle.dead_store.specs.Rounds.{set_locals, SetsBelow, goes, unless, staying}

module _ (all left left2 : List Stmt) (s : Stmt) (t : Taken all left) (popped : left ≡ left2 ++ s ∷ []) where
  pub taken_sets : (n : ℕ) → SetsBelow n all → All (λ x. x < n) (set_locals s)
  taken_sets n h = All-contains (λ s. All (λ x. x < n) (set_locals s)) all s h (subst (λ xs. Contains xs s) (taken_whole all left left2 s t popped) (Contains-append_right left2 (s ∷ drop (length left) all) s (0, omega arith, refl)))

-- the row of what is live after the statements that were taken
pub row_before : (live now : List (List Bool)) (row : ℕ) (ss : List Stmt) (trees : List Tree) → row < length live → now ≡ set live row (before_all (map (stmt_of trees) ss) (row_at live row)) → row_at now row ≡ before_all (map (stmt_of trees) ss) (row_at live row)
row_before live now row ss trees l e = ap (λ t. row_at t row) e ∙ get_or-set_same live row (before_all (map (stmt_of trees) ss) (row_at live row)) [] l

pub row_more : (live now next : List (List Bool)) (row : ℕ) (s : Stmt) (ss : List Stmt) (trees : List Tree) → row < length live → now ≡ set live row (before_all (map (stmt_of trees) ss) (row_at live row)) → next ≡ set now row (before_stmt (stmt_of trees s) (row_at now row)) → next ≡ set live row (before_all (map (stmt_of trees) (s ∷ ss)) (row_at live row))
row_more live now next row s ss trees l e q = row_then live now next row (before_all (map (stmt_of trees) ss)) (before_stmt (stmt_of trees s)) l e q

pub rows_long : (live now : List (List Bool)) (row : ℕ) (v : List Bool) → now ≡ set live row v → length now ≡ length live
rows_long live now row v e = ap length e ∙ length-set live row v

pub row_long : (live now : List (List Bool)) (row : ℕ) (ss : List Stmt) (trees : List Tree) → row < length live → now ≡ set live row (before_all (map (stmt_of trees) ss) (row_at live row)) → length (row_at now row) ≡ length (row_at live row)
row_long live now row ss trees l e = ap length (row_before live now row ss trees l e) ∙ length-before_all (map (stmt_of trees) ss) (row_at live row)

-- one statement more, or not
pub kept_more : (lent end : List Bool) (kept kept2 : List Stmt) (s : Stmt) (ss : List Stmt) (gone : Bool) (trees : List Tree) → kept ≡ reverse (staying trees lent end ss) → gone ≡ goes lent (before_all (map (stmt_of trees) ss) end) s → kept2 ≡ (if gone then kept else kept ++ s ∷ []) → kept2 ≡ reverse (staying trees lent end (s ∷ ss))
kept_more lent end kept kept2 s ss gone trees e g h =
    h ∙ ap (λ xs. if gone then xs else xs ++ s ∷ []) e ∙ turn gone (staying trees lent end ss) ∙ ap (λ b. reverse (unless b s (staying trees lent end ss))) g
  where
    turn : (b : Bool) (xs : List Stmt) → (if b then reverse xs else reverse xs ++ s ∷ []) ≡ reverse (unless b s xs)
    turn true xs = refl
    turn false xs = sym (reverse-append (s ∷ []) xs)
