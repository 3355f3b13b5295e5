-- Lists of equal marks, and of one mark.
use Rattle.std.proofs.Common.{◌≡◌, ℕ, zero, suc, ◌<◌, Bool, true, false, ◌==◌, List, [], ◌∷◌, length, set, slice_get, is_some, refl, sym, ap, ◌∙◌, arith, eqb-true}
use Rattle.std.specs.Prelude.{replicate}
use Rattle.std.proofs.lemmas.Bool.{eqb-false}
use Rattle.std.proofs.lemmas.List.{get_or-set_same, get_or-set_other, length-replicate}
use Rattle.drop_tables.specs.Marks.{is_marked}

pub none_marked : (n d : ℕ) → is_marked (replicate n false) d ≡ false
none_marked zero d = refl
none_marked (suc n) zero = refl
none_marked (suc n) (suc d) = none_marked n d

pub all_marked : {A : Type 0} (xs : List A) (n d : ℕ) → length xs ≡ n → is_marked (replicate n true) d ≡ is_some (slice_get xs d)
all_marked [] n d h = ap (λ k. is_marked (replicate k true) d) (sym h)
all_marked (x ∷ xs) zero d h = absurd (omega arith)
all_marked (x ∷ xs) (suc n) zero h = refl
all_marked (x ∷ xs) (suc n) (suc d) h = all_marked xs n d (omega (arith, h))

pub one_marked : (n e k : ℕ) → e < n → is_marked (set (replicate n false) e true) k ≡ (k == e)
one_marked n e k below = go (k == e) refl
  where
    go : (b : Bool) → (k == e) ≡ b → is_marked (set (replicate n false) e true) k ≡ b
    go true h =
        let same : k ≡ e = eqb-true k e h in
        ap (is_marked (set (replicate n false) e true)) same ∙ get_or-set_same (replicate n false) e true false (rw (length-replicate n false) below)
    go false h = get_or-set_other (replicate n false) e k true false (eqb-false k e h) ∙ none_marked n k
