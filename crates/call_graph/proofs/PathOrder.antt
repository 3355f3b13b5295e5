-- Paths are compared byte by byte.
use Rattle.std.proofs.Common.{◌≡◌, ◌≢◌, refl, ap, ap₂, ◌∙◌, ℕ, zero, suc, ◌+◌, ◌<◌, ◌≤◌, Bool, true, false, ◌==◌, ◌&&◌, ◌||◌, List, [], ◌∷◌, length, get_or, drop, arith}
use Rattle.std.specs.Prelude.{nat_lt}
use Rattle.std.proofs.lemmas.Bool.Decides.{nat_tests}
use Rattle.call_graph.specs.Graph.{bytes_below}

drop_at : (xs : List ℕ) (i d : ℕ) → i < length xs → drop i xs ≡ get_or xs i d ∷ drop (i + 1) xs
drop_at [] i d l = absurd (omega arith)
drop_at (x ∷ xs) zero d l = refl
drop_at (x ∷ xs) (suc i) d l = drop_at xs i d (omega (arith, l)) ∙ ap (λ (k : ℕ). get_or xs i d ∷ drop k (x ∷ xs)) (let e : suc (i + 1) ≡ suc i + 1 = omega arith in e)

drop_all : (xs : List ℕ) (i : ℕ) → length xs ≤ i → drop i xs ≡ []
drop_all [] zero l = refl
drop_all [] (suc i) l = refl
drop_all (x ∷ xs) zero l = absurd (omega arith)
drop_all (x ∷ xs) (suc i) l = drop_all xs i (omega (arith, l))

none_below : (xs : List ℕ) → bytes_below xs [] ≡ false
none_below [] = refl
none_below (x ∷ xs) = refl

pub below_done : (xs ys : List ℕ) (i : ℕ) → length ys ≤ i → bytes_below (drop i xs) (drop i ys) ≡ false
below_done xs ys i l = ap (bytes_below (drop i xs)) (drop_all ys i l) ∙ none_below (drop i xs)

pub below_short : (xs ys : List ℕ) (i : ℕ) → i < length ys → length xs ≤ i → bytes_below (drop i xs) (drop i ys) ≡ true
below_short xs ys i l m = ap₂ bytes_below (drop_all xs i m) (drop_at ys i 0 l)

pub below_step : (xs ys : List ℕ) (i : ℕ) → i < length ys → i < length xs → get_or xs i 0 ≡ get_or ys i 0 → bytes_below (drop i xs) (drop i ys) ≡ bytes_below (drop (i + 1) xs) (drop (i + 1) ys)
below_step xs ys i l m e = ap₂ bytes_below (drop_at xs i 0 m) (drop_at ys i 0 l) ∙ go (get_or xs i 0) (get_or ys i 0) (bytes_below (drop (i + 1) xs) (drop (i + 1) ys)) e
  where
    go : (x y : ℕ) (b : Bool) → x ≡ y → (nat_lt x y || ((x == y) && b)) ≡ b
    go x y b e = grind (arith, nat_tests)

pub below_differ : (xs ys : List ℕ) (i : ℕ) → i < length ys → i < length xs → get_or xs i 0 ≢ get_or ys i 0 → bytes_below (drop i xs) (drop i ys) ≡ nat_lt (get_or xs i 0) (get_or ys i 0)
below_differ xs ys i l m e = ap₂ bytes_below (drop_at xs i 0 m) (drop_at ys i 0 l) ∙ go (get_or xs i 0) (get_or ys i 0) (bytes_below (drop (i + 1) xs) (drop (i + 1) ys)) e
  where
    go : (x y : ℕ) (b : Bool) → x ≢ y → (nat_lt x y || ((x == y) && b)) ≡ nat_lt x y
    go x y b e = grind (arith, nat_tests)

-- ---- the order

pub bytes_irreflexive : (xs : List ℕ) → bytes_below xs xs ≡ false
bytes_irreflexive [] = refl
bytes_irreflexive (x ∷ xs) = let r = bytes_irreflexive xs in grind (arith, nat_tests)

pub bytes_transitive : (xs ys zs : List ℕ) → bytes_below xs ys ≡ true → bytes_below ys zs ≡ true → bytes_below xs zs ≡ true
bytes_transitive xs ys [] h k = absurd (none ys k)
  where
    none : (ys : List ℕ) → bytes_below ys [] ≡ true → ⊥
    none [] k = absurd (cc)
    none (y ∷ ys) k = absurd (cc)
bytes_transitive [] ys (z ∷ zs) h k = refl
bytes_transitive (x ∷ xs) [] (z ∷ zs) h k = absurd (cc)
bytes_transitive (x ∷ xs) (y ∷ ys) (z ∷ zs) h k = let r = bytes_transitive xs ys zs in grind (arith, nat_tests)
