-- Rows in which locals are marked, one after another.
use Rattle.std.proofs.Common.{◌≡◌, refl, sym, ap, ap₂, ◌∙◌, ℕ, ◌+◌, ◌<◌, List, [], ◌∷◌, ◌++◌, Bool, false, map, length, get_or, set, take, replicate, arith}
use Rattle.std.specs.List.{flat_map, range_with_len}
use Rattle.std.proofs.lemmas.List.{map_more, flat_map_more}
use Rattle.bit_rows.specs.Rows.{row_at, marked, stands}
use Rattle.bit_rows.proofs.Marks.{marked-append, marked-blank, marks_then}
use Rattle.mir_syntax.specs.declared.body.Rvalue.{Rvalue}
use Rattle.mir_syntax.specs.declared.body.Rvalue.TheVariants as rvalue
use Rattle.mir_syntax.specs.declared.body.Stmt.{Stmt}
use Rattle.mir_syntax.specs.declared.body.Stmt.TheVariants as stmt
use Rattle.mir_syntax.specs.Tree.{Tree}
use Rattle.mir_syntax.specs.Crate.{stmt_of, rvalue_of, TypedBlock}
use Rattle.mir_syntax.specs.declared.body.Block.{Block}
use Rattle.escape_info.specs.Borrowed.{lent_by, lent, bare_lent_by, bare_lent}

same_by : (trees : List Tree) (r : Rvalue) → lent_by (rvalue_of trees r) ≡ bare_lent_by r
same_by trees (rvalue.Use a) = refl
same_by trees (rvalue.Binary op a b) = refl
same_by trees (rvalue.Overflow op a b) = refl
same_by trees (rvalue.Unary op a) = refl
same_by trees (rvalue.Cast a ty) = refl
same_by trees (rvalue.Ref p) = refl
same_by trees (rvalue.RefMut p) = refl
same_by trees (rvalue.Discriminant p) = refl
same_by trees (rvalue.Tuple parts) = refl
same_by trees (rvalue.Build d v parts) = refl

same_lent : (trees : List Tree) (s : Stmt) → lent (stmt_of trees s) ≡ bare_lent s
same_lent trees (stmt.Assign p r) = same_by trees r
same_lent trees (stmt.StorageLive x) = refl
same_lent trees (stmt.StorageDead x) = refl
same_lent trees (stmt.SetDiscriminant p k) = refl

-- statements lend the same with and without ids
pub all_lent : (trees : List Tree) (stmts : List Stmt) → flat_map lent (map (stmt_of trees) stmts) ≡ flat_map bare_lent stmts
all_lent trees [] = refl
all_lent trees (s ∷ stmts) = ap₂ (λ xs ys. xs ++ ys) (same_lent trees s) (all_lent trees stmts)

-- one more block's marks
pub block_more : (f : TypedBlock → List ℕ) (g : Block → TypedBlock) (blocks : List Block) (i : ℕ) (d : Block) (n : ℕ) (row row2 row3 : List (List Bool)) (xs ys : List ℕ) → i < length blocks → row ≡ marked (replicate n false) (flat_map f (map g (take i blocks))) ∷ [] → row2 ≡ set row 0 (marked (row_at row 0) xs) → row3 ≡ set row2 0 (marked (row_at row2 0) ys) → f (g (get_or blocks i d)) ≡ xs ++ ys → row3 ≡ marked (replicate n false) (flat_map f (map g (take (i + 1) blocks))) ∷ []
block_more f g blocks i d n row row2 row3 xs ys l e e2 e3 is =
    marks_then row row2 row3 0 xs ys (let z : length row ≡ 1 = ap length e in omega arith) e2 e3
    ∙ ap (λ t. set t 0 (marked (row_at t 0) (xs ++ ys))) e
    ∙ ap (λ r. r ∷ []) (sym (marked-append (replicate n false) (flat_map f (map g (take i blocks))) (xs ++ ys)))
    ∙ ap (λ zs. marked (replicate n false) zs ∷ []) (ap (λ zs. flat_map f (map g (take i blocks)) ++ zs) (sym is) ∙ flat_map_more f [] (map g (take i blocks)) (g (get_or blocks i d)) ∙ ap (flat_map f) (sym (map_more g blocks i d l)))

-- all blocks' marks are the borrowed locals
pub marks_are : (n : ℕ) (xs : List ℕ) (row : List (List Bool)) → row ≡ marked (replicate n false) xs ∷ [] → row ≡ map (λ k. stands k xs) (range_with_len 0 n) ∷ []
marks_are n xs row e = e ∙ ap (λ r. r ∷ []) (marked-blank n xs)
