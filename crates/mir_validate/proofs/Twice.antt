-- Whether a value stands twice shows in the order of the values.
use Rattle.std.proofs.Common.{◌≡◌, ◌⊎◌, inl, inr, refl, sym, ap, ◌∙◌, subst, ℕ, suc, ◌≤◌, ◌==◌, Bool, true, false, cond, not, ◌&&◌, ◌||◌, nat_lt, List, [], ◌∷◌, sum_by, arith, ltb-false, eqb-true, eq-eqb}
use Rattle.std.specs.List.{list_any}
use Rattle.std.specs.List.Sorted.{IsPermutation, IsNonDecreasing}
use Rattle.std.proofs.lemmas.List.Sums.{sum_by-cons}
use Rattle.std.proofs.lemmas.List.Sorted.{sum_by-IsPermutation}
use Rattle.mir_rules.specs.BodyRules.{has_twice}
use Rattle.std.proofs.lemmas.Bool.{or_cases, or_left, or_right}
use Rattle.mir_validate.specs.Terms.{ascends_from, ascends}
use Rattle.mir_validate.proofs.TermCodes.{ascends_once}

-- one for an equal value
abbrev pub one_if : ℕ → ℕ → ℕ
one_if v u = cond (u == v) 1 0

one_for_itself : (v : ℕ) → one_if v v ≡ 1
one_for_itself v = ap (λ b. cond b 1 0) (eq-eqb v v refl)

any_counted : (v : ℕ) (vs : List ℕ) → list_any (λ u. u == v) vs ≡ true → 1 ≤ sum_by (one_if v) vs
any_counted v [] h = absurd cc
any_counted v (u ∷ us) h = go (or_cases (u == v) (list_any (λ u. u == v) us) h) (any_counted v us)
  where
    go : ((u == v) ≡ true) ⊎ (list_any (λ u. u == v) us ≡ true) → (list_any (λ u. u == v) us ≡ true → 1 ≤ sum_by (one_if v) us) → 1 ≤ sum_by (one_if v) (u ∷ us)
    go (inl same) later = let one : one_if v u ≡ 1 = ap (λ b. cond b 1 0) same in omega (arith, one, sum_by-cons (one_if v) u us)
    go (inr far) later = omega (arith, later far, sum_by-cons (one_if v) u us)

counted_any : (v : ℕ) (vs : List ℕ) → 1 ≤ sum_by (one_if v) vs → list_any (λ u. u == v) vs ≡ true
counted_any v [] h = absurd (omega arith)
counted_any v (u ∷ us) h = go (u == v) refl (counted_any v us)
  where
    go : (b : Bool) → (u == v) ≡ b → (1 ≤ sum_by (one_if v) us → list_any (λ u. u == v) us ≡ true) → ((u == v) || list_any (λ u. u == v) us) ≡ true
    go true e later = or_left (u == v) (list_any (λ u. u == v) us) e
    go false e later =
        let none : one_if v u ≡ 0 = ap (λ b. cond b 1 0) e in
        or_right (u == v) (list_any (λ u. u == v) us) (later (omega (arith, h, none, sum_by-cons (one_if v) u us)))

twice_counted : (vs : List ℕ) → has_twice vs ≡ true → (v : ℕ) × (2 ≤ sum_by (one_if v) vs)
twice_counted [] h = absurd cc
twice_counted (v ∷ vs) h = go (or_cases (list_any (λ u. u == v) vs) (has_twice vs) h) (twice_counted vs)
  where
    go : (list_any (λ u. u == v) vs ≡ true) ⊎ (has_twice vs ≡ true) → (has_twice vs ≡ true → (w : ℕ) × (2 ≤ sum_by (one_if w) vs)) → (w : ℕ) × (2 ≤ sum_by (one_if w) (v ∷ vs))
    go (inl near) later = (v, omega (arith, any_counted v vs near, one_for_itself v, sum_by-cons (one_if v) v vs))
    go (inr far) later = let (w, many) = later far in (w, omega (arith, many, sum_by-cons (one_if w) v vs))

counted_twice : (v : ℕ) (vs : List ℕ) → 2 ≤ sum_by (one_if v) vs → has_twice vs ≡ true
counted_twice v [] h = absurd (omega arith)
counted_twice v (w ∷ vs) h = go (w == v) refl (counted_twice v vs)
  where
    go : (b : Bool) → (w == v) ≡ b → (2 ≤ sum_by (one_if v) vs → has_twice vs ≡ true) → (list_any (λ u. u == w) vs || has_twice vs) ≡ true
    go true e later =
        let one : one_if v w ≡ 1 = ap (λ b. cond b 1 0) e in
        let same : v ≡ w = sym (eqb-true w v e) in
        or_left (list_any (λ u. u == w) vs) (has_twice vs) (subst (λ x. list_any (λ u. u == x) vs ≡ true) same (counted_any v vs (omega (arith, h, one, sum_by-cons (one_if v) w vs))))
    go false e later =
        let none : one_if v w ≡ 0 = ap (λ b. cond b 1 0) e in
        or_right (list_any (λ u. u == w) vs) (has_twice vs) (later (omega (arith, h, none, sum_by-cons (one_if v) w vs)))

same_bools : (a b : Bool) → (a ≡ true → b ≡ true) → (b ≡ true → a ≡ true) → a ≡ b
same_bools true true f g = refl
same_bools true false f g = sym (f refl)
same_bools false true f g = g refl
same_bools false false f g = refl

pub twice_in_any_order : (vs us : List ℕ) → IsPermutation vs us → has_twice us ≡ has_twice vs
twice_in_any_order vs us p =
    same_bools (has_twice us) (has_twice vs)
    (λ h. let (v, many) = twice_counted us h in counted_twice v vs (omega (arith, many, sum_by-IsPermutation (one_if v) vs us p)))
    (λ h. let (v, many) = twice_counted vs h in counted_twice v us (omega (arith, many, sum_by-IsPermutation (one_if v) vs us p)))

falls_twice : (v : ℕ) (vs : List ℕ) → IsNonDecreasing (v ∷ vs) → ascends_from v vs ≡ false → has_twice (v ∷ vs) ≡ true
falls_twice v [] up h = absurd cc
falls_twice v (u ∷ us) up h = go (nat_lt v u) refl (falls_twice u us (λ i j d a b. up (suc i) (suc j) d (omega (arith, a)) (omega (arith, b))))
  where
    go : (b : Bool) → nat_lt v u ≡ b → (ascends_from u us ≡ false → has_twice (u ∷ us) ≡ true) → has_twice (v ∷ u ∷ us) ≡ true
    go true e later = or_right (list_any (λ x. x == v) (u ∷ us)) (has_twice (u ∷ us)) (later (sym (ap (λ b. b && ascends_from u us) e) ∙ h))
    go false e later =
        let low : u ≤ v = ltb-false v u e in
        let high : v ≤ u = up 0 1 0 (omega arith) (omega arith) in
        let same : u ≡ v = omega (arith, low, high) in
        or_left (list_any (λ x. x == v) (u ∷ us)) (has_twice (u ∷ us)) (or_left (u == v) (list_any (λ x. x == v) us) (eq-eqb u v same))

-- of values in their order one stands twice exactly where they don't all ascend
pub sorted_twice : (vs : List ℕ) → IsNonDecreasing vs → not (ascends vs) ≡ has_twice vs
sorted_twice vs up = go (ascends vs) refl
  where
    fallen : (vs : List ℕ) → IsNonDecreasing vs → ascends vs ≡ false → has_twice vs ≡ true
    fallen [] up h = absurd cc
    fallen (v ∷ vs) up h = falls_twice v vs up h

    go : (b : Bool) → ascends vs ≡ b → not b ≡ has_twice vs
    go true e = sym (ascends_once vs e)
    go false e = sym (fallen vs up e)
