-- The fault that is answered of a list that is walked part by part.
use Rattle.std.proofs.Common.{◌≡◌, ◌⊎◌, inl, inr, refl, ap, ◌∙◌, ℕ, ◌<◌, ◌≤◌, Bool, true, false, nat_eq, nat_lt, if◌then◌else◌, List, [], ◌∷◌, ◌++◌, Option, Some, None, arith}
use Rattle.std.proofs.Common.{eqb-true, ltb-true, ltb-false}
use Rattle.std.proofs.lemmas.Bool.{eqb-false}
use Rattle.mir_text.specs.NameFaults.{comes_first, earlier, first_fault}

-- the fault that is kept of two
abbrev pub either : Option (ℕ × ℕ) → Option (ℕ × ℕ) → Option (ℕ × ℕ)
either None b = b
either (Some a) b = Some (earlier a b)

-- ---- the order of faults

abbrev Before : ℕ × ℕ → ℕ × ℕ → Type 0
Before a b = (a.0 < b.0) ⊎ ((a.0 ≡ b.0) × (a.1 < b.1))

abbrev After : ℕ × ℕ → ℕ × ℕ → Type 0
After a b = (b.0 < a.0) ⊎ ((a.0 ≡ b.0) × (b.1 ≤ a.1))

tells : (a b : ℕ × ℕ) → ((comes_first a b ≡ true) × Before a b) ⊎ ((comes_first a b ≡ false) × After a b)
tells a b = go (nat_lt a.0 b.0) (nat_eq a.0 b.0) (nat_lt a.1 b.1) refl refl refl
  where
    go : (x y z : Bool) → nat_lt a.0 b.0 ≡ x → nat_eq a.0 b.0 ≡ y → nat_lt a.1 b.1 ≡ z → ((comes_first a b ≡ true) × Before a b) ⊎ ((comes_first a b ≡ false) × After a b)
    go true y z e f g = inl (rw e refl, inl (ltb-true a.0 b.0 e))
    go false true true e f g = inl (rw (e, f, g) refl, inr (eqb-true a.0 b.0 f, ltb-true a.1 b.1 g))
    go false true false e f g = inr (rw (e, f, g) refl, inr (eqb-true a.0 b.0 f, ltb-false a.1 b.1 g))
    go false false z e f g = inr (rw (e, f) refl, inl (omega (arith, ltb-false a.0 b.0 e, eqb-false a.0 b.0 f)))

chain : (a b c : ℕ × ℕ) → Before c b → Before b a → After c a → ⊥
chain a b c (inl p) (inl q) (inl r) = omega (arith, p, q, r)
chain a b c (inl p) (inl q) (inr r) = omega (arith, p, q, r.0)
chain a b c (inl p) (inr q) (inl r) = omega (arith, p, q.0, r)
chain a b c (inl p) (inr q) (inr r) = omega (arith, p, q.0, r.0)
chain a b c (inr p) (inl q) (inl r) = omega (arith, p.0, q, r)
chain a b c (inr p) (inl q) (inr r) = omega (arith, p.0, q, r.0)
chain a b c (inr p) (inr q) (inl r) = omega (arith, p.0, q.0, r)
chain a b c (inr p) (inr q) (inr r) = omega (arith, p.1, q.1, r.1)

chain_back : (a b c : ℕ × ℕ) → After c b → After b a → Before c a → ⊥
chain_back a b c (inl p) (inl q) (inl r) = omega (arith, p, q, r)
chain_back a b c (inl p) (inl q) (inr r) = omega (arith, p, q, r.0)
chain_back a b c (inl p) (inr q) (inl r) = omega (arith, p, q.0, r)
chain_back a b c (inl p) (inr q) (inr r) = omega (arith, p, q.0, r.0)
chain_back a b c (inr p) (inl q) (inl r) = omega (arith, p.0, q, r)
chain_back a b c (inr p) (inl q) (inr r) = omega (arith, p.0, q, r.0)
chain_back a b c (inr p) (inr q) (inl r) = omega (arith, p.0, q.0, r)
chain_back a b c (inr p) (inr q) (inr r) = omega (arith, p.1, q.1, r.1)

-- ---- it matters not which two are compared first

abbrev pick : ℕ × ℕ → ℕ × ℕ → ℕ × ℕ
pick a b = if comes_first b a then b else a

pick_assoc : (a b c : ℕ × ℕ) → pick a (pick b c) ≡ pick (pick a b) c
pick_assoc a b c = go (tells c b) (tells b a) (tells c a)
  where
    go : ((comes_first c b ≡ true) × Before c b) ⊎ ((comes_first c b ≡ false) × After c b) → ((comes_first b a ≡ true) × Before b a) ⊎ ((comes_first b a ≡ false) × After b a) → ((comes_first c a ≡ true) × Before c a) ⊎ ((comes_first c a ≡ false) × After c a) → pick a (pick b c) ≡ pick (pick a b) c
    go (inl p) (inl q) (inl r) = rw (p.0, q.0, r.0, p.0) refl
    go (inl p) (inl q) (inr r) = absurd (chain a b c p.1 q.1 r.1)
    go (inl p) (inr q) r = rw (p.0, q.0) refl
    go (inr p) (inl q) r = rw (p.0, q.0, p.0) refl
    go (inr p) (inr q) (inl r) = absurd (chain_back a b c p.1 q.1 r.1)
    go (inr p) (inr q) (inr r) = rw (p.0, q.0, r.0) refl

pub either_assoc : (x y z : Option (ℕ × ℕ)) → either x (either y z) ≡ either (either x y) z
either_assoc None y z = refl
either_assoc (Some a) None z = refl
either_assoc (Some a) (Some b) None = refl
either_assoc (Some a) (Some b) (Some c) = ap Some (pick_assoc a b c)

-- of a list in two parts, the fault is that of the first or of the second
pub first_fault_append : (xs ys : List (ℕ × ℕ)) → first_fault (xs ++ ys) ≡ either (first_fault xs) (first_fault ys)
first_fault_append [] ys = refl
first_fault_append (x ∷ xs) ys = ap (either (Some x)) (first_fault_append xs ys) ∙ either_assoc (Some x) (first_fault xs) (first_fault ys)
