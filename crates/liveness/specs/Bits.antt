-- Bits of rows, and members of lists: proofs alone, which `Lattice` cites.
use Rattle.std.proofs.Common.{◌≡◌, ◌⊎◌, inl, inr, refl, sym, ap, ap₂, ◌∙◌, ℕ, zero, suc, ◌<◌, ◌≤◌, List, [], ◌∷◌, Bool, true, false, not, ◌==◌, ◌&&◌, ◌||◌, length, get_or, set, replicate, arith}
use Rattle.std.specs.List.{Contains}
use Rattle.std.proofs.lemmas.Bool.{cases_eq, eq-eqb, ne_eqb, eqb-true, both_ways, or_cases, or_left, or_right}
use Rattle.std.proofs.lemmas.List.{length-set, length-replicate, get_or-replicate, get_or-set_same, get_or-set_other}
use Rattle.std.proofs.lemmas.List.Sums.{sum_by-cons}
use Rattle.mir_syntax.proofs.Members.{has_later, has_cases, has_none}
use Rattle.bit_rows.specs.Rows.{stands}
use Rattle.liveness.specs.Rows.{cleared}
use Rattle.liveness.specs.Facts.{one_if, ones}

-- ---- members

pub not_is : (a : Bool) → (a ≡ true → ⊥) → not a ≡ true
not_is true h = absurd (h refl)
not_is false h = refl

pub not_true : (a : Bool) → not a ≡ true → a ≡ true → ⊥
not_true true e f = absurd (grind arith)
not_true false e f = absurd (grind arith)

pub stands_has : (x : ℕ) (xs : List ℕ) → stands x xs ≡ true → Contains xs x
stands_has x [] e = absurd (grind arith)
stands_has x (y ∷ xs) e = elim (or_cases (x == y) (stands x xs) e) [
  | inl q ↦ (0, omega arith, sym (eqb-true x y q))
  | inr q ↦ has_later y x xs (stands_has x xs q)
]

pub has_stands : (x : ℕ) (xs : List ℕ) → Contains xs x → stands x xs ≡ true
has_stands x [] p = absurd (has_none x p)
has_stands x (y ∷ xs) p = elim (has_cases y x xs p) [
  | inl e ↦ or_left (x == y) (stands x xs) (eq-eqb x y (sym e))
  | inr q ↦ or_right (x == y) (stands x xs) (has_stands x xs q)
]

-- ---- rows that are cleared

pub length-cleared : (row : List Bool) (xs : List ℕ) → length (cleared row xs) ≡ length row
length-cleared row [] = refl
length-cleared row (x ∷ xs) = length-cleared (set row x false) xs ∙ length-set row x false

and_true : (b : Bool) → (b && not false) ≡ b
and_true true = refl
and_true false = refl

and_false : (b c : Bool) → (false && not c) ≡ (b && not (true || c))
and_false true c = refl
and_false false c = refl

-- a bit is set where it was and doesn't stand among the cleared ones
pub cleared-at : (row : List Bool) (xs : List ℕ) (k : ℕ) → k < length row → get_or (cleared row xs) k false ≡ (get_or row k false && not (stands k xs))
cleared-at row [] k l = sym (and_true (get_or row k false))
cleared-at row (x ∷ xs) k l = cleared-at (set row x false) xs k (omega (arith, length-set row x false)) ∙ step (cases_eq k x)
  where
    step : (k ≡ x) ⊎ (k ≡ x → ⊥) → (get_or (set row x false) k false && not (stands k xs)) ≡ (get_or row k false && not ((k == x) || stands k xs))
    step (inl e) = ap (λ b. b && not (stands k xs)) (ap (λ i. get_or (set row x false) i false) e ∙ get_or-set_same row x false false (omega arith)) ∙ and_false (get_or row k false) (stands k xs) ∙ ap (λ b. get_or row k false && not (b || stands k xs)) (sym (eq-eqb k x e))
    step (inr ne) = ap (λ b. b && not (stands k xs)) (get_or-set_other row x k false false ne) ∙ ap (λ b. get_or row k false && not (b || stands k xs)) (sym (ne_eqb k x ne))

-- a bit that is set is in its row
pub bit_within : (row : List Bool) (k : ℕ) → get_or row k false ≡ true → k < length row
bit_within [] k e = absurd (grind arith)
bit_within (b ∷ row) zero e = omega arith
bit_within (b ∷ row) (suc k) e = (let l = bit_within row k e in omega arith)

pub blank_bit : (n k : ℕ) → get_or (replicate n false) k false ≡ true → ⊥
blank_bit n k e =
    let l : k < n = (let m = bit_within (replicate n false) k e in omega (arith, length-replicate n false)) in
    both_ways (get_or (replicate n false) k false) (get_or-replicate n k false false l) e

-- ---- how many bits are set

abbrev pub Lower : List Bool → List Bool → Type 0
Lower xs ys = (k : ℕ) → get_or xs k false ≡ true → get_or ys k false ≡ true

lower_tail : (x y : Bool) (xs ys : List Bool) → Lower (x ∷ xs) (y ∷ ys) → Lower xs ys
lower_tail x y xs ys h k e = h (suc k) e

pub one_low : (x y : Bool) → (x ≡ true → y ≡ true) → one_if x ≤ one_if y
one_low true true h = omega arith
one_low true false h = absurd (let z = h refl in grind arith)
one_low false true h = omega arith
one_low false false h = omega arith

pub one_same : (x y : Bool) → one_if x ≡ one_if y → x ≡ y
one_same true true e = refl
one_same true false e = absurd (omega arith)
one_same false true e = absurd (omega arith)
one_same false false e = refl

pub ones_low : (xs ys : List Bool) → length xs ≡ length ys → Lower xs ys → ones xs ≤ ones ys
ones_low [] [] e h = omega arith
ones_low [] (y ∷ ys) e h = absurd (omega arith)
ones_low (x ∷ xs) [] e h = absurd (omega arith)
ones_low (x ∷ xs) (y ∷ ys) e h =
    let a = ones_low xs ys (omega arith) (lower_tail x y xs ys h) in
    let b = one_low x y (λ q. h 0 q) in
    omega (arith, sum_by-cons one_if x xs, sum_by-cons one_if y ys)

pub ones_same : (xs ys : List Bool) → length xs ≡ length ys → Lower xs ys → ones xs ≡ ones ys → xs ≡ ys
ones_same [] [] e h s = refl
ones_same [] (y ∷ ys) e h s = absurd (omega arith)
ones_same (x ∷ xs) [] e h s = absurd (omega arith)
ones_same (x ∷ xs) (y ∷ ys) e h s =
    let a = ones_low xs ys (omega arith) (lower_tail x y xs ys h) in
    let b = one_low x y (λ q. h 0 q) in
    let head : one_if x ≡ one_if y = omega (arith, sum_by-cons one_if x xs, sum_by-cons one_if y ys) in
    let tail : ones xs ≡ ones ys = omega (arith, sum_by-cons one_if x xs, sum_by-cons one_if y ys) in
    ap₂ (λ (x : Bool) (xs : List Bool). x ∷ xs) (one_same x y head) (ones_same xs ys (omega arith) (lower_tail x y xs ys h) tail)

pub ones_few : (xs : List Bool) → ones xs ≤ length xs
ones_few [] = omega arith
ones_few (x ∷ xs) = (let a = ones_few xs in let b = one_few x in omega (arith, sum_by-cons one_if x xs))
  where
    one_few : (x : Bool) → one_if x ≤ 1
    one_few true = omega arith
    one_few false = omega arith
