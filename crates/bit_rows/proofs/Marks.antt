-- Rows in which bits are set one after another.
use Rattle.std.proofs.Common.{◌≡◌, ◌⊎◌, inl, inr, refl, sym, ap, ◌∙◌, ℕ, ◌+◌, ◌<◌, List, [], ◌∷◌, ◌++◌, Bool, true, false, ◌==◌, ◌||◌, map, length, get_or, set, take, replicate, arith}
use Rattle.std.specs.List.{flat_map, range_with_len}
use Rattle.std.proofs.lemmas.Bool.{cases_eq, eq-eqb, ne_eqb}
use Rattle.std.proofs.lemmas.List.{set-set, length-set, length-replicate, get_or-replicate, get_or-set_same, get_or-set_other, take_more, flat_map_more}
use Rattle.std.proofs.lemmas.List.FromFn.{fill_by_all}
use Rattle.bit_rows.specs.Rows.{row_at, marked, stands}

pub marked-append : (row : List Bool) (xs ys : List ℕ) → marked row (xs ++ ys) ≡ marked (marked row xs) ys
marked-append row [] ys = refl
marked-append row (x ∷ xs) ys = marked-append (set row x true) xs ys

pub length-marked : (row : List Bool) (xs : List ℕ) → length (marked row xs) ≡ length row
length-marked row [] = refl
length-marked row (x ∷ xs) = length-marked (set row x true) xs ∙ length-set row x true

or_false : (b : Bool) → (b || false) ≡ b
or_false true = refl
or_false false = refl

or_true : (b : Bool) → (b || true) ≡ true
or_true true = refl
or_true false = refl

-- a bit is set where it was or stands among the marked ones
pub marked-at : (row : List Bool) (xs : List ℕ) (k : ℕ) → k < length row → get_or (marked row xs) k false ≡ (get_or row k false || stands k xs)
marked-at row [] k l = sym (or_false (get_or row k false))
marked-at row (x ∷ xs) k l = marked-at (set row x true) xs k (omega (arith, length-set row x true)) ∙ step (cases_eq k x)
  where
    same : (b c : Bool) → (true || c) ≡ (b || (true || c))
    same true c = refl
    same false c = refl

    step : (k ≡ x) ⊎ (k ≡ x → ⊥) → (get_or (set row x true) k false || stands k xs) ≡ (get_or row k false || ((k == x) || stands k xs))
    step (inl e) = ap (λ b. b || stands k xs) (ap (λ i. get_or (set row x true) i false) e ∙ get_or-set_same row x true false (omega arith)) ∙ same (get_or row k false) (stands k xs) ∙ ap (λ b. get_or row k false || (b || stands k xs)) (sym (eq-eqb k x e))
    step (inr ne) = ap (λ b. b || stands k xs) (get_or-set_other row x k true false ne) ∙ ap (λ b. get_or row k false || (b || stands k xs)) (sym (ne_eqb k x ne))

pub marked-blank : (n : ℕ) (xs : List ℕ) → marked (replicate n false) xs ≡ map (λ k. stands k xs) (range_with_len 0 n)
marked-blank n xs = fill_by_all (λ k. stands k xs) (marked (replicate n false) xs) n false (length-marked (replicate n false) xs ∙ length-replicate n false)
    (λ k l. marked-at (replicate n false) xs k (omega (arith, length-replicate n false)) ∙ ap (λ b. b || stands k xs) (get_or-replicate n k false false l))

-- one row is marked, and marked again
pub marks_then : (rows rows2 rows3 : List (List Bool)) (r : ℕ) (xs ys : List ℕ) → r < length rows → rows2 ≡ set rows r (marked (row_at rows r) xs) → rows3 ≡ set rows2 r (marked (row_at rows2 r) ys) → rows3 ≡ set rows r (marked (row_at rows r) (xs ++ ys))
marks_then rows rows2 rows3 r xs ys l e f =
    f ∙ ap (λ t. set t r (marked (row_at t r) ys)) e
    ∙ ap (λ row. set (set rows r (marked (row_at rows r) xs)) r (marked row ys)) (get_or-set_same rows r (marked (row_at rows r) xs) [] l)
    ∙ set-set rows r (marked (row_at rows r) xs) (marked (marked (row_at rows r) xs) ys)
    ∙ ap (set rows r) (sym (marked-append (row_at rows r) xs ys))

-- the same in a loop over items that each mark some bits
pub marks_more : {A : Type 0} (f : A → List ℕ) (items : List A) (i : ℕ) (d : A) (rows rows2 rows3 : List (List Bool)) (r : ℕ) → i < length items → r < length rows → rows2 ≡ set rows r (marked (row_at rows r) (flat_map f (take i items))) → rows3 ≡ set rows2 r (marked (row_at rows2 r) (f (get_or items i d))) → rows3 ≡ set rows r (marked (row_at rows r) (flat_map f (take (i + 1) items)))
marks_more f items i d rows rows2 rows3 r l m e g =
    marks_then rows rows2 rows3 r (flat_map f (take i items)) (f (get_or items i d)) m e g
    ∙ ap (λ xs. set rows r (marked (row_at rows r) xs)) (flat_map_more f [] (take i items) (get_or items i d) ∙ ap (flat_map f) (sym (take_more items i d l)))
