-- The blocks and statements of a folded body, and those that they come from.
use Rattle.std.proofs.Common.{◌≡◌, ◌⊎◌, inl, inr, refl, sym, ap, ap₂, ℕ, zero, suc, List, [], ◌∷◌, take, length, Some, None, slice_get, arith}
use Rattle.mir_syntax.specs.Crate.{TypedStmt, TypedBlock, TypedBody}
use Rattle.mir_syntax.specs.Shapes.{Shape}
use Rattle.mir_semantics.specs.Step.{Here}
use Rattle.const_flow.specs.Facts.{Facts, after_stmt, after_all}
use Rattle.const_flow.specs.ConstAt.{Reached, text}
use Rattle.const_rewrite.specs.Folded.{folded_stmt, folded_stmts, folded_term, folded_block, folded_blocks, folded_by}

some_one : {A : Type 0} {x y : A} → Some x ≡ Some y → x ≡ y
some_one e = grind arith

-- ---- to the folded body

pub stmt_there : (h : Here) (ss : List TypedStmt) (i : ℕ) (fs : Facts) (s : TypedStmt) → slice_get ss i ≡ Some s → slice_get (folded_stmts h fs ss) i ≡ Some (folded_stmt h (after_all h (take i ss) fs) s)
stmt_there h [] i fs s e = absurd (grind arith)
stmt_there h (t ∷ ss) zero fs s e = ap (λ s. Some (folded_stmt h fs s)) (some_one e)
stmt_there h (t ∷ ss) (suc i) fs s e = stmt_there h ss i (after_stmt h t fs) s e

pub stmt_gone : (h : Here) (ss : List TypedStmt) (i : ℕ) (fs : Facts) → slice_get ss i ≡ None → slice_get (folded_stmts h fs ss) i ≡ None
stmt_gone h [] i fs e = refl
stmt_gone h (s ∷ ss) zero fs e = absurd (grind arith)
stmt_gone h (s ∷ ss) (suc i) fs e = stmt_gone h ss i (after_stmt h s fs) e

pub block_is : (h : Here) (k : TypedBlock) (fs : Facts) → folded_block h k (Some fs) ≡ record { stmts = folded_stmts h fs k.stmts; term = folded_term h (after_all h k.stmts fs) k.term }
unfolding folded_block
block_is h k fs = refl

blocks_at : (h : Here) (ks : List TypedBlock) (xs : List Reached) (i : ℕ) (k : TypedBlock) (x : Reached) → slice_get ks i ≡ Some k → slice_get xs i ≡ Some x → slice_get (folded_blocks h ks xs) i ≡ Some (folded_block h k x)
blocks_at h [] xs i k x e d = absurd (grind arith)
blocks_at h (b ∷ ks) [] i k x e d = absurd (grind arith)
blocks_at h (b ∷ ks) (y ∷ xs) zero k x e d = ap₂ (λ b y. Some (folded_block h b y)) (some_one e) (some_one d)
blocks_at h (b ∷ ks) (y ∷ xs) (suc i) k x e d = blocks_at h ks xs i k x e d

pub block_there : (D : List Shape) (xs : List Reached) (b : TypedBody) (i : ℕ) (k : TypedBlock) (x : Reached) → slice_get b.blocks i ≡ Some k → slice_get xs i ≡ Some x → slice_get (folded_by D xs b).blocks i ≡ Some (folded_block (text D b) k x)
unfolding folded_by
block_there D xs b i k x e d = blocks_at (text D b) b.blocks xs i k x e d

pub same_locals : (D : List Shape) (xs : List Reached) (b : TypedBody) → (folded_by D xs b).locals ≡ b.locals
unfolding folded_by
same_locals D xs b = refl

pub same_args : (D : List Shape) (xs : List Reached) (b : TypedBody) → (folded_by D xs b).args ≡ b.args
unfolding folded_by
same_args D xs b = refl

pub blocks_long : (h : Here) (ks : List TypedBlock) (xs : List Reached) → length (folded_blocks h ks xs) ≡ length ks
blocks_long h [] xs = refl
blocks_long h (k ∷ ks) [] = refl
blocks_long h (k ∷ ks) (x ∷ xs) = ap suc (blocks_long h ks xs)

pub as_many : (D : List Shape) (xs : List Reached) (b : TypedBody) → length (folded_by D xs b).blocks ≡ length b.blocks
unfolding folded_by
as_many D xs b = blocks_long (text D b) b.blocks xs

-- ---- from the folded body

-- a statement is folded by some facts
pub stmt_back : (h : Here) (ss : List TypedStmt) (i : ℕ) (fs : Facts) (s2 : TypedStmt) → slice_get (folded_stmts h fs ss) i ≡ Some s2 → (gs : Facts) × (s : TypedStmt) × (slice_get ss i ≡ Some s) × (folded_stmt h gs s ≡ s2)
stmt_back h [] i fs s2 e = absurd (grind arith)
stmt_back h (s ∷ ss) zero fs s2 e = (fs, s, refl, some_one e)
stmt_back h (s ∷ ss) (suc i) fs s2 e = stmt_back h ss i (after_stmt h s fs) s2 e

-- a block is the one that it comes from, or that one folded by some facts
abbrev pub BlockFrom : Here → TypedBlock → TypedBlock → Type 0
BlockFrom h k k2 = (k2 ≡ k) ⊎ ((fs : Facts) × (k2 ≡ record { stmts = folded_stmts h fs k.stmts; term = folded_term h (after_all h k.stmts fs) k.term }))

pub blocks_from : (h : Here) (ks : List TypedBlock) (xs : List Reached) (i : ℕ) (k2 : TypedBlock) → slice_get (folded_blocks h ks xs) i ≡ Some k2 → (k : TypedBlock) × (slice_get ks i ≡ Some k) × BlockFrom h k k2
unfolding folded_block
blocks_from h [] xs i k2 e = absurd (grind arith)
blocks_from h (k ∷ ks) [] i k2 e = (k2, e, inl refl)
blocks_from h (k ∷ ks) (None ∷ xs) zero k2 e = (k, refl, inl (sym (some_one e)))
blocks_from h (k ∷ ks) (Some fs ∷ xs) zero k2 e = (k, refl, inr (fs, sym (some_one e)))
blocks_from h (k ∷ ks) (x ∷ xs) (suc i) k2 e = blocks_from h ks xs i k2 e
