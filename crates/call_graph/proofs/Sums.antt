-- Sums that end at a greatest number.
use Rattle.std.proofs.Common.{◌≡◌, ap, ◌∙◌, ℕ, ◌+◌, ◌<◌, List, [], ◌∷◌, map, length, get_or, take, min, arith}
use Rattle.std.specs.Prelude.{sum_by}
use Rattle.std.proofs.lemmas.List.{take_more, map-append}
use Rattle.std.proofs.lemmas.List.Sums.{sum_by_push}

min_more : (a b m : ℕ) → min (min a m + b) m ≡ min (a + b) m
min_more a b m = omega arith

-- one item more
pub sum_more : {A B : Type 0} (f : B → ℕ) (g : A → B) (items : List A) (i : ℕ) (d : A) (m total added : ℕ) → i < length items → total ≡ min (sum_by f (map g (take i items))) m → added ≡ min (f (g (get_or items i d))) m → min (total + added) m ≡ min (sum_by f (map g (take (i + 1) items))) m
sum_more f g items i d m total added l e a =
    let whole : sum_by f (map g (take (i + 1) items)) ≡ sum_by f (map g (take i items)) + f (g (get_or items i d)) =
    ap (λ xs. sum_by f (map g xs)) (take_more items i d l) ∙ ap (sum_by f) (map-append g (take i items) (get_or items i d ∷ [])) ∙ sum_by_push f (map g (take i items)) (g (get_or items i d)) in
    omega (arith, whole, e, a)
