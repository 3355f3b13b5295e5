-- Tests of all or some items of a list.
use Rattle.std.proofs.Common.{◌≡◌, ap, ◌∙◌, ℕ, zero, suc, ◌+◌, ◌<◌, Bool, true, false, List, [], ◌∷◌, map, length, get_or, take, arith}
use Rattle.std.specs.List.{list_all, list_any}

-- one item that fails
pub all_not : {A B : Type 0} (p : B → Bool) (f : A → B) (xs : List A) (i : ℕ) (d : A) → i < length xs → p (f (get_or xs i d)) ≡ false → list_all p (map f xs) ≡ false
all_not p f [] i d l e = absurd (omega arith)
all_not p f (x ∷ xs) zero d l e = grind arith
all_not p f (x ∷ xs) (suc i) d l e = let r = all_not p f xs i d (omega (arith, l)) e in grind arith

-- one item that passes
pub any_at : {A : Type 0} (p : A → Bool) (xs : List A) (i : ℕ) (d : A) → i < length xs → p (get_or xs i d) ≡ true → list_any p xs ≡ true
any_at p [] i d l e = absurd (omega arith)
any_at p (x ∷ xs) zero d l e = grind arith
any_at p (x ∷ xs) (suc i) d l e = let r = any_at p xs i d (omega (arith, l)) e in grind arith

-- one item more that fails
pub none_more : {A : Type 0} (p : A → Bool) (xs : List A) (i : ℕ) (d : A) → i < length xs → list_any p (take i xs) ≡ false → p (get_or xs i d) ≡ false → list_any p (take (i + 1) xs) ≡ false
none_more p xs i d l e f = ap (λ k. list_any p (take k xs)) (let z : i + 1 ≡ suc i = omega arith in z) ∙ go xs i l e f
  where
    go : (xs : List _) (i : ℕ) → i < length xs → list_any p (take i xs) ≡ false → p (get_or xs i d) ≡ false → list_any p (take (suc i) xs) ≡ false
    go [] i l e f = absurd (omega arith)
    go (x ∷ xs) zero l e f = grind arith
    go (x ∷ xs) (suc i) l e f = let r = go xs i (omega (arith, l)) (grind arith) f in grind arith
