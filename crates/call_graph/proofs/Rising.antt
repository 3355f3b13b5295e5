-- Lists of numbers that rise.
use Rattle.std.proofs.Common.{◌≡◌, ◌≢◌, sym, ap, subst, ◌∙◌, ℕ, zero, suc, ◌<◌, ◌≤◌, true, false, List, [], ◌∷◌, ◌++◌, length, get_or, ◌⊎◌, inl, inr, arith}
use Rattle.std.specs.Prelude.{Option, Some, option_to_list}
use Rattle.bit_rows.specs.Rows.{stands}
use Rattle.call_graph.specs.Search.{Rising}
use Rattle.call_graph.proofs.Once.{bool_tells, both, stands_cases, stands_first, stands_later, stands_append, stands_left, stands_right}

pub stands_one : (x y : ℕ) → stands x (y ∷ []) ≡ true → x ≡ y
stands_one x y e = elim (stands_cases x y [] e) [ inl s ↦ s | inr s ↦ absurd (cc) ]

pub stands_at : (xs : List ℕ) (i : ℕ) → i < length xs → stands (get_or xs i 0) xs ≡ true
stands_at [] i l = absurd (omega arith)
stands_at (x ∷ xs) zero l = stands_first x xs
stands_at (x ∷ xs) (suc i) l = stands_later (get_or xs i 0) x xs (stands_at xs i (omega (arith, l)))

pub stands_where : (x : ℕ) (xs : List ℕ) → stands x xs ≡ true → (i : ℕ) × (i < length xs) × (get_or xs i 0 ≡ x)
stands_where x [] e = absurd (cc)
stands_where x (y ∷ xs) e = go (stands_cases x y xs e) (stands_where x xs)
  where
    go : (x ≡ y) ⊎ (stands x xs ≡ true) → (stands x xs ≡ true → (i : ℕ) × (i < length xs) × (get_or xs i 0 ≡ x)) → (i : ℕ) × (i < suc (length xs)) × (get_or (y ∷ xs) i 0 ≡ x)
    go (inl s) r = (zero, omega arith, sym s)
    go (inr k) r = let u = r k in (suc u.0, (let l = u.1 in omega arith), u.2)

-- what doesn't stand in a longer list doesn't stand in its front
pub not_left : (x : ℕ) (xs ys : List ℕ) → stands x (xs ++ ys) ≡ false → stands x xs ≡ false
not_left x xs ys e = elim (bool_tells (stands x xs)) [ inl t ↦ absurd (both (stands x (xs ++ ys)) (stands_left x xs ys t) e) | inr t ↦ t ]

pub not_snoc : (x y : ℕ) (xs : List ℕ) → stands x xs ≡ false → x ≢ y → stands x (xs ++ y ∷ []) ≡ false
not_snoc x y xs e ne = elim (bool_tells (stands x (xs ++ y ∷ []))) [
  | inl t ↦ elim (stands_append x xs (y ∷ []) t) [ inl s ↦ absurd (both (stands x xs) s e) | inr s ↦ absurd (ne (stands_one x y s)) ]
  | inr t ↦ t
]

pub rising_snoc : (xs : List ℕ) (z : ℕ) → Rising xs → ((y : ℕ) → stands y xs ≡ true → y < z) → Rising (xs ++ z ∷ [])
rising_snoc [] z r h = ((λ y e. absurd (cc)), tt)
rising_snoc (x ∷ xs) z r h = ((λ y e. go y (stands_append y xs (z ∷ []) e)), rising_snoc xs z r.1 (λ y e. h y (stands_later y x xs e)))
  where
    go : (y : ℕ) → (stands y xs ≡ true) ⊎ (stands y (z ∷ []) ≡ true) → x < y
    go y (inl e) = r.0 y e
    go y (inr e) = let s = stands_one y z e in let l = h x (stands_first x xs) in omega (arith, s, l)

pub rising_front : (xs : List ℕ) (z : ℕ) → Rising (xs ++ z ∷ []) → Rising xs × ((y : ℕ) → stands y xs ≡ true → y < z)
rising_front [] z r = (tt, (λ y e. absurd (cc)))
rising_front (x ∷ xs) z r =
    let rest = rising_front xs z r.1 in
    (((λ y e. r.0 y (stands_left y xs (z ∷ []) e)), rest.0), (λ y e. go y (stands_cases y x xs e) rest.1))
  where
    go : (y : ℕ) → (y ≡ x) ⊎ (stands y xs ≡ true) → ((y : ℕ) → stands y xs ≡ true → y < z) → y < z
    go y (inl s) h = let l = r.0 z (stands_right z xs (z ∷ []) (stands_first z [])) in omega (arith, s, l)
    go y (inr e) h = h y e

-- the last is the greatest
pub rising_last : (xs : List ℕ) (i : ℕ) → suc i ≡ length xs → Rising xs → (y : ℕ) → stands y xs ≡ true → y ≤ get_or xs i 0
rising_last [] i e r y s = absurd (omega arith)
rising_last (x ∷ []) zero e r y s = let k = stands_one y x s in omega (arith, k)
rising_last (x ∷ z ∷ xs) zero e r y s = absurd (omega arith)
rising_last (x ∷ xs) (suc i) e r y s = go (stands_cases y x xs s) (rising_last xs i (omega (arith, e)) r.1 y)
  where
    go : (y ≡ x) ⊎ (stands y xs ≡ true) → (stands y xs ≡ true → y ≤ get_or xs i 0) → y ≤ get_or xs i 0
    go (inl k) h = let l = r.0 (get_or xs i 0) (stands_at xs i (omega (arith, e))) in omega (arith, k, l)
    go (inr k) h = h k

-- ---- parts that are joined, one after another from the last on

-- those that are left of the old ones, which begin at or before a place or weren't looked at
pub record Joins (old now : List ℕ) (place : ℕ) : Type 0 where
  pub rises : Rising now
  pub first : stands 0 now ≡ true
  pub kept : (p : ℕ) → stands p old ≡ true → p ≤ place → stands p now ≡ true
  pub were : (p : ℕ) → stands p now ≡ true → stands p old ≡ true

pub joins_less : (old now next : List ℕ) (last place : ℕ) → now ≡ next ++ last ∷ [] → place < last → Joins old now place → Joins old next place
joins_less old now next last place cut above j = record {
  rises = (rising_front next last (subst Rising cut j.rises)).0;
  first = low 0 (omega arith) j.first;
  kept = λ p e l. low p l (j.kept p e l);
  were = λ p e. j.were p (subst (λ xs. stands p xs ≡ true) (sym cut) (stands_left p next (last ∷ []) e));
}
  where
    low : (p : ℕ) → p ≤ place → stands p now ≡ true → stands p next ≡ true
    low p l e = elim (stands_append p next (last ∷ []) (subst (λ xs. stands p xs ≡ true) cut e)) [
      | inl s ↦ s
      | inr s ↦ (let k = stands_one p last s in absurd (omega (arith, k, l, above)))
    ]

pub some_there : (x : ℕ) (xs : List ℕ) → stands x xs ≡ true → 0 < length xs
some_there x [] e = absurd (cc)
some_there x (y ∷ xs) e = omega arith

-- the last item, taken out
pub popped_last : (old now : List ℕ) (r : Option ℕ) (x : ℕ) → old ≡ now ++ option_to_list r → r ≡ Some x → old ≡ now ++ x ∷ []
popped_last old now r x e k = e ∙ ap (λ o. now ++ option_to_list o) k
