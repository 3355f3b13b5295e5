-- What a round leaves by the relation is the one body that the function gives.
use Rattle.std.proofs.Common.{◌≡◌, refl, sym, ap, ap₂, ◌∙◌, subst, ℕ, suc, ◌+◌, ◌≤◌, ◌↔◌, Bool, true, false, if◌then◌else◌, List, [], ◌∷◌, length, Some, slice_get, inl, inr, arith}
use Rattle.mir_syntax.specs.Crate.{TypedStmt, TypedBlock, TypedBody}
use Rattle.mir_syntax.specs.Shapes.{Shape}
use Rattle.dead_store.specs.Pruned.{KeptFrom, IsPrunedOnce, IsPruned, is_useless, without, blocks_without, pruned_once, pruned}
use Rattle.dead_store.proofs.Without.{without_goes, without_stays, without_get, blocks_long}
use Rattle.dead_store.proofs.Decided.{useless_of, useful_of, of_useless, of_useful}

module _ (D : List Shape) (b : TypedBody) (i : ℕ) (k : TypedBlock) (at : slice_get b.blocks i ≡ Some k) where
  -- the statements that the relation keeps are those that the function leaves
  kept_is : (n : ℕ) (ss kept : List TypedStmt) → n + length ss ≡ length k.stmts → KeptFrom D b i n ss kept → kept ≡ without (is_useless D b i) n ss
  kept_is n [] kept e h = h
  kept_is n (s ∷ ss) kept e (inl h) =
      let within : suc n ≤ length k.stmts = omega (arith, e) in
      kept_is (suc n) ss kept (omega (arith, e)) h.1 ∙ sym (without_goes (is_useless D b i) n ss s (of_useless D b i n k at within s h.0))
  kept_is n (s ∷ ss) kept e (inr h) =
      let within : suc n ≤ length k.stmts = omega (arith, e) in
      h.1.1 ∙ ap (λ (xs : List TypedStmt). s ∷ xs) (kept_is (suc n) ss h.1.0 (omega (arith, e)) h.1.2) ∙ sym (without_stays (is_useless D b i) n ss s (of_useful D b i n k at within s h.0))

  is_kept : (n : ℕ) (ss : List TypedStmt) → n + length ss ≡ length k.stmts → KeptFrom D b i n ss (without (is_useless D b i) n ss)
  is_kept n [] e = refl
  is_kept n (s ∷ ss) e = go (is_useless D b i n s) refl (is_kept (suc n) ss (omega (arith, e)))
    where
      go : (g : Bool) → is_useless D b i n s ≡ g → KeptFrom D b i (suc n) ss (without (is_useless D b i) (suc n) ss) → KeptFrom D b i n (s ∷ ss) (if g then without (is_useless D b i) (suc n) ss else s ∷ without (is_useless D b i) (suc n) ss)
      go true q h = inl (useless_of D b i n k at (omega (arith, e)) s q, h)
      go false q h = inr (useful_of D b i n k at (omega (arith, e)) s q, (without (is_useless D b i) (suc n) ss, refl, h))

module _ (D : List Shape) (b : TypedBody) where
  blocks_are : (i : ℕ) (ks cs : List TypedBlock) → length cs ≡ length ks → ((j : ℕ) (k : TypedBlock) → slice_get ks j ≡ Some k → slice_get b.blocks (i + j) ≡ Some k)
      → ((j : ℕ) (k c : TypedBlock) → slice_get ks j ≡ Some k → slice_get cs j ≡ Some c → (c.term ≡ k.term) × KeptFrom D b (i + j) 0 k.stmts c.stmts) → cs ≡ blocks_without (is_useless D b) i ks
  blocks_are i [] [] e at h = refl
  blocks_are i [] (c ∷ cs) e at h = absurd (omega arith)
  blocks_are i (k ∷ ks) [] e at h = absurd (omega arith)
  blocks_are i (k ∷ ks) (c ∷ cs) e at h =
      let zero_more : i + 0 ≡ i = omega arith in
      let here = subst (λ (n : ℕ). slice_get b.blocks n ≡ Some k) zero_more (at 0 k refl) in
      let one = h 0 k c refl refl in
      let kept = kept_is D b i k here 0 k.stmts c.stmts (omega arith) (subst (λ (n : ℕ). KeptFrom D b n 0 k.stmts c.stmts) zero_more one.1) in
      ap₂ (λ (x : TypedBlock) (xs : List TypedBlock). x ∷ xs) (λ j. record { stmts = kept j; term = one.0 j })
      (blocks_are (suc i) ks cs (omega (arith, e)) (λ j x s. subst (λ (n : ℕ). slice_get b.blocks n ≡ Some x) (let z : i + suc j ≡ suc i + j = omega arith in z) (at (suc j) x s))
      (λ j x y s t. let r = h (suc j) x y s t in (r.0, subst (λ (n : ℕ). KeptFrom D b n 0 x.stmts y.stmts) (let z : i + suc j ≡ suc i + j = omega arith in z) r.1)))

  once_is : (c : TypedBody) → IsPrunedOnce D b c → c ≡ pruned_once D b
  once_is c h =
      let blocks = blocks_are 0 b.blocks c.blocks h.count (λ j k s. subst (λ (n : ℕ). slice_get b.blocks n ≡ Some k) (let z : j ≡ 0 + j = omega arith in z) s)
      (λ j k x s t. let r = h.blocks j k x s t in (r.0, subst (λ (n : ℕ). KeptFrom D b n 0 k.stmts x.stmts) (let z : j ≡ 0 + j = omega arith in z) r.1)) in
      λ i. record { args = h.args i; locals = h.locals i; blocks = blocks i }

  is_once : IsPrunedOnce D b (pruned_once D b)
  is_once = record { args = refl; locals = refl; count = blocks_long (is_useless D b) 0 b.blocks; blocks = λ i k k2 e e2. at i k k2 e e2 }
    where
      at : (i : ℕ) (k k2 : TypedBlock) → slice_get b.blocks i ≡ Some k → slice_get (blocks_without (is_useless D b) 0 b.blocks) i ≡ Some k2 → (k2.term ≡ k.term) × KeptFrom D b i 0 k.stmts k2.stmts
      at i k k2 e e2 =
          let z : 0 + i ≡ i = omega arith in
          let same : record { stmts = without (is_useless D b (0 + i)) 0 k.stmts; term = k.term } ≡ k2 = only_block _ k2 (sym (without_get (is_useless D b) 0 i b.blocks k e) ∙ e2) in
          subst (λ (y : TypedBlock). (y.term ≡ k.term) × KeptFrom D b i 0 k.stmts y.stmts) same (refl, subst (λ j. KeptFrom D b i 0 k.stmts (without (is_useless D b j) 0 k.stmts)) (sym z) (is_kept D b i k e 0 k.stmts (let long : 0 + length k.stmts ≡ length k.stmts = omega arith in long)))
        where
          only_block : (x y : TypedBlock) → Some x ≡ Some y → x ≡ y
          only_block x y e = grind arith

-- what the relation of the pass relates a body to is what the function makes of it
pub pruned_is : (D : List Shape) (b c : TypedBody) → IsPruned D b c → c ≡ pruned D b
unfolding pruned
pruned_is D b c (b2, (b3, one, two, three)) =
    let e2 = once_is D b b2 one in
    let e3 = once_is D b2 b3 two ∙ ap (pruned_once D) e2 in
    once_is D b3 c three ∙ ap (pruned_once D) e3

is_pruned : (D : List Shape) (b : TypedBody) → IsPruned D b (pruned D b)
unfolding pruned
is_pruned D b = (pruned_once D b, (pruned_once D (pruned_once D b), is_once D b, is_once D (pruned_once D b), is_once D (pruned_once D (pruned_once D b))))

pub one_answer : (D : List Shape) (b c : TypedBody) → IsPruned D b c ↔ c ≡ pruned D b
one_answer D b c = (pruned_is D b c, λ e. subst (IsPruned D b) (sym e) (is_pruned D b))
