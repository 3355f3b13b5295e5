-- What is an element of a list, by the list's first element.
use Rattle.std.proofs.Common.{◌≡◌, ◌⊎◌, inl, inr, refl, ℕ, zero, suc, List, [], ◌∷◌, arith}
use Rattle.std.specs.List.{Contains}

pub has_first : (x : ℕ) (xs : List ℕ) → Contains (x ∷ xs) x
has_first x xs = (0, omega arith, refl)

pub has_later : (y x : ℕ) (xs : List ℕ) → Contains xs x → Contains (y ∷ xs) x
has_later y x xs p = (suc p.0, (let l = p.1 in omega arith), p.2)

pub has_cases : (y x : ℕ) (xs : List ℕ) → Contains (y ∷ xs) x → (y ≡ x) ⊎ Contains xs x
has_cases y x xs (zero, l, e) = inl e
has_cases y x xs (suc k, l, e) = inr (k, omega arith, e)

pub has_none : (x : ℕ) → Contains {X = ℕ} [] x → ⊥
has_none x p = absurd (let l = p.1 in omega arith)
