-- Lists in which each is before those after it, by some relation.
use Rattle.std.proofs.Common.{◌≡◌, ◌⊎◌, inl, inr, refl, subst, ℕ, zero, suc, ◌<◌, List, [], ◌∷◌, ◌++◌, map, take, slice_get, Some, arith}
use Rattle.mir_syntax.proofs.Lists.{map_back}

some_one : {A : Type 0} {x y : A} → Some x ≡ Some y → x ≡ y
some_one e = cc

-- what stands in two lists behind one another stands in one of them
pub append_back : {A : Type 0} (xs ys : List A) (i : ℕ) (x : A) → slice_get (xs ++ ys) i ≡ Some x → ((n : ℕ) × (slice_get xs n ≡ Some x)) ⊎ ((n : ℕ) × (slice_get ys n ≡ Some x))
append_back [] ys i x e = inr (i, e)
append_back (a ∷ xs) ys zero x e = inl (0, e)
append_back (a ∷ xs) ys (suc i) x e = elim (append_back xs ys i x e) [ inl h ↦ inl (suc h.0, h.1) | inr h ↦ inr h ]

pub take_back : {A : Type 0} (n : ℕ) (xs : List A) (i : ℕ) (x : A) → slice_get (take n xs) i ≡ Some x → slice_get xs i ≡ Some x
take_back zero xs i x e = absurd cc
take_back (suc n) [] i x e = absurd cc
take_back (suc n) (y ∷ xs) zero x e = e
take_back (suc n) (y ∷ xs) (suc i) x e = take_back n xs i x e

module _ {A : Type 0} (R : A → A → Type 0) where
  abbrev pub Rises : List A → Type 0
  Rises [] = Unit {0}
  Rises (x ∷ xs) = ((i : ℕ) (y : A) → slice_get xs i ≡ Some y → R x y) × Rises xs

  pub rises_at : (xs : List A) → Rises xs → (i j : ℕ) (x y : A) → i < j → slice_get xs i ≡ Some x → slice_get xs j ≡ Some y → R x y
  rises_at [] h i j x y l ex ey = absurd cc
  rises_at (a ∷ xs) h zero zero x y l ex ey = absurd (omega arith)
  rises_at (a ∷ xs) h zero (suc j) x y l ex ey = subst (λ z. R z y) (some_one ex) (h.0 j y ey)
  rises_at (a ∷ xs) h (suc i) zero x y l ex ey = absurd (omega arith)
  rises_at (a ∷ xs) h (suc i) (suc j) x y l ex ey = rises_at xs h.1 i j x y (omega arith) ex ey

  pub rises_take : (n : ℕ) (xs : List A) → Rises xs → Rises (take n xs)
  rises_take zero xs h = tt
  rises_take (suc n) [] h = tt
  rises_take (suc n) (x ∷ xs) h = (λ i y e. h.0 i y (take_back n xs i y e), rises_take n xs h.1)

  pub rises_append : (xs ys : List A) → Rises xs → Rises ys → ((i j : ℕ) (x y : A) → slice_get xs i ≡ Some x → slice_get ys j ≡ Some y → R x y) → Rises (xs ++ ys)
  rises_append [] ys h k across = k
  rises_append (x ∷ xs) ys h k across = (
    λ i y e. elim (append_back xs ys i y e) [ inl p ↦ h.0 p.0 y p.1 | inr p ↦ across 0 p.0 x y refl p.1 ],
    rises_append xs ys h.1 k (λ i j a b ea eb. across (suc i) j a b ea eb),
  )

pub rises_map : {A B : Type 0} (R : A → A → Type 0) (S : B → B → Type 0) (f : A → B) → ((x y : A) → R x y → S (f x) (f y)) → (xs : List A) → Rises R xs → Rises S (map f xs)
rises_map R S f keeps [] h = tt
rises_map R S f keeps (x ∷ xs) h = (
  λ i y e. (let (z, at, is) = map_back f xs i y e in subst (S (f x)) is (keeps x z (h.0 i z at))),
  rises_map R S f keeps xs h.1,
)
