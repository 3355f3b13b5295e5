-- What is left of a list from a place on.
use Rattle.std.proofs.Common.{◌≡◌, refl, sym, ap, ℕ, zero, suc, List, [], ◌∷◌, drop, Some, None, slice_get, arith}

pub drop_some : {A : Type 0} (ss : List A) (i : ℕ) (s : A) → slice_get ss i ≡ Some s → drop i ss ≡ s ∷ drop (suc i) ss
drop_some [] i s e = absurd (grind arith)
drop_some (x ∷ ss) zero s e = ap (λ y. y ∷ ss) (let k : x ≡ s = grind arith in k)
drop_some (x ∷ ss) (suc i) s e = drop_some ss i s e

pub drop_none : {A : Type 0} (ss : List A) (i : ℕ) → slice_get ss i ≡ None → drop i ss ≡ []
drop_none [] zero e = refl
drop_none [] (suc i) e = refl
drop_none (x ∷ ss) zero e = absurd (grind arith)
drop_none (x ∷ ss) (suc i) e = drop_none ss i e

pub get_drop : {A : Type 0} (ss : List A) (i : ℕ) → slice_get ss i ≡ slice_get (drop i ss) 0
get_drop [] zero = refl
get_drop [] (suc i) = refl
get_drop (x ∷ ss) zero = refl
get_drop (x ∷ ss) (suc i) = get_drop ss i

pub drop_next : {A : Type 0} (ss : List A) (i : ℕ) (s : A) (rest : List A) → drop i ss ≡ s ∷ rest → (slice_get ss i ≡ Some s) × (rest ≡ drop (suc i) ss)
drop_next [] zero s rest e = absurd (grind arith)
drop_next [] (suc i) s rest e = absurd (grind arith)
drop_next (x ∷ ss) zero s rest e = (let k : x ≡ s = grind arith in ap Some k, let k : ss ≡ rest = grind arith in sym k)
drop_next (x ∷ ss) (suc i) s rest e = drop_next ss i s rest e
