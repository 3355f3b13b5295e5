-- A body without the statements that go, and the body that it is left of.
use Rattle.std.proofs.Common.{◌≡◌, refl, sym, ap, ap₂, ◌∙◌, ℕ, zero, suc, ◌+◌, Bool, true, false, if◌then◌else◌, List, [], ◌∷◌, length, Some, slice_get, arith}
use Rattle.mir_syntax.specs.Crate.{TypedStmt, TypedBlock}
use Rattle.dead_store.specs.Pruned.{without, blocks_without}

pub without_goes : (gone : ℕ → TypedStmt → Bool) (n : ℕ) (ss : List TypedStmt) (s : TypedStmt) → gone n s ≡ true → without gone n (s ∷ ss) ≡ without gone (suc n) ss
without_goes gone n ss s h = ap (λ b. if b then without gone (suc n) ss else s ∷ without gone (suc n) ss) h

pub without_stays : (gone : ℕ → TypedStmt → Bool) (n : ℕ) (ss : List TypedStmt) (s : TypedStmt) → gone n s ≡ false → without gone n (s ∷ ss) ≡ s ∷ without gone (suc n) ss
without_stays gone n ss s h = ap (λ b. if b then without gone (suc n) ss else s ∷ without gone (suc n) ss) h

-- what is left of a block
pub without_get : (gone : ℕ → ℕ → TypedStmt → Bool) (j i : ℕ) (ks : List TypedBlock) (k : TypedBlock) → slice_get ks i ≡ Some k → slice_get (blocks_without gone j ks) i ≡ Some (record { stmts = without (gone (j + i)) 0 k.stmts; term = k.term })
without_get gone j i [] k e = absurd (grind arith)
without_get gone j zero (y ∷ ks) k e =
    let z : j + 0 ≡ j = omega arith in
    ap₂ (λ (y : TypedBlock) n. Some (record { stmts = without (gone n) 0 y.stmts; term = y.term })) (let q : y ≡ k = grind arith in q) (sym z)
without_get gone j (suc i) (y ∷ ks) k e =
    let z : suc j + i ≡ j + suc i = omega arith in
    without_get gone (suc j) i ks k e ∙ ap (λ n. Some (record { stmts = without (gone n) 0 k.stmts; term = k.term })) z

pub blocks_long : (gone : ℕ → ℕ → TypedStmt → Bool) (m : ℕ) (ks : List TypedBlock) → length (blocks_without gone m ks) ≡ length ks
blocks_long gone m [] = refl
blocks_long gone m (k ∷ ks) = ap suc (blocks_long gone (suc m) ks)

stmt_back : (gone : ℕ → TypedStmt → Bool) (n : ℕ) (ss : List TypedStmt) (i : ℕ) (s : TypedStmt) → slice_get (without gone n ss) i ≡ Some s → (j : ℕ) × (slice_get ss j ≡ Some s)
stmt_back gone n [] i s e = absurd (grind arith)
stmt_back gone n (x ∷ ss) i s e = go (gone n x) i e (λ m i e. stmt_back gone m ss i s e)
  where
    go : (b : Bool) (i : ℕ) → slice_get (if b then without gone (suc n) ss else x ∷ without gone (suc n) ss) i ≡ Some s → ((m i : ℕ) → slice_get (without gone m ss) i ≡ Some s → (j : ℕ) × (slice_get ss j ≡ Some s)) → (j : ℕ) × (slice_get (x ∷ ss) j ≡ Some s)
    go true i e ih = let (j, h) = ih (suc n) i e in (suc j, h)
    go false zero e ih = (0, e)
    go false (suc i) e ih = let (j, h) = ih (suc n) i e in (suc j, h)

-- a block that is left, and the block that it is left of
pub record Left (ks : List TypedBlock) (i : ℕ) (k2 : TypedBlock) : Type 0 where
  pub block : TypedBlock
  pub there : slice_get ks i ≡ Some block
  pub term : k2.term ≡ block.term
  pub stmts : (n : ℕ) (s : TypedStmt) → slice_get k2.stmts n ≡ Some s → (j : ℕ) × (slice_get block.stmts j ≡ Some s)

pub block_back : (gone : ℕ → ℕ → TypedStmt → Bool) (m : ℕ) (ks : List TypedBlock) (i : ℕ) (k2 : TypedBlock) → slice_get (blocks_without gone m ks) i ≡ Some k2 → Left ks i k2
block_back gone m [] i k2 e = absurd (grind arith)
block_back gone m (k ∷ ks) zero k2 e =
    let same : record { stmts = without (gone m) 0 k.stmts; term = k.term } ≡ k2 = some_block _ k2 e in
    record { block = k; there = refl; term = ap (λ (k : TypedBlock). k.term) (sym same); stmts = λ n s h. stmt_back (gone m) 0 k.stmts n s (ap (λ (k : TypedBlock). slice_get k.stmts n) same ∙ h) }
  where
    some_block : (a b : TypedBlock) → Some a ≡ Some b → a ≡ b
    some_block a b e = grind arith
block_back gone m (k ∷ ks) (suc i) k2 e =
    let h = block_back gone (suc m) ks i k2 e in
    record { block = h.block; there = h.there; term = h.term; stmts = h.stmts }
