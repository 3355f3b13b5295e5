-- A type's integers and their bits, both ways.
use Rattle.std.proofs.Common.{◌≡◌, ◌∙◌, refl, sym, ap, subst, ℕ, suc, ◌-◌, ◌%◌, ◌<◌, ◌≤◌, Bool, true, false, nat_lt, Option, Some, None, arith, ℤ, pos, negsuc}
use Rattle.std.specs.Prelude.{◌-ℤ◌}
use Rattle.std.proofs.lemmas.Int.{ints}
use Rattle.std.proofs.lemmas.Bool.Decides.{nat_tests}
use native.Mathlib.Nat.{mod-eq_of_lt}
use Rattle.mir_syntax.specs.declared.types.ScalarTy.{ScalarTy}
use Rattle.mir_num.specs.Widths.{is_signed, patterns, negatives}
use Rattle.mir_num.specs.Numbers.{wrap, integer_of, bits_of, fits, exactly}
use Rattle.mir_num.proofs.Patterns.{half, no_negatives, patterns_pos, integer_low, integer_high, bits_of_integer, exactly_fits, exactly_not, fits_between, fits_not_low, fits_not_high}

wrap_small : (t : ScalarTy) (n : ℕ) → n < patterns t → wrap t n ≡ n
unfolding wrap
wrap_small t n h = mod-eq_of_lt h

less_by : (t : ScalarTy) (b : Bool) → is_signed t ≡ b → negatives t < patterns t
less_by t true e = let (d, p, l) = half t e in omega (arith, d, p, l)
less_by t false e = let n = no_negatives t e in let p = patterns_pos t in omega (arith, n, p)

-- not all patterns are negative
pub less : (t : ScalarTy) → negatives t < patterns t
less t = less_by t (is_signed t) refl

-- ---- from bits

fits_low : (t : ScalarTy) (n : ℕ) → n < patterns t - negatives t → n < patterns t → fits t (integer_of t n) ≡ true
fits_low t n h small =
    let same : wrap t n ≡ n = wrap_small t n small in
    let is : integer_of t n ≡ pos n = integer_low t n (rw same h) ∙ ap pos same in
    rw is (fits_between t (pos n) (omega (arith, ints)) (omega (arith, ints)))

fits_high : (t : ScalarTy) (n : ℕ) → patterns t - negatives t ≤ n → n < patterns t → fits t (integer_of t n) ≡ true
fits_high t n h small =
    let same : wrap t n ≡ n = wrap_small t n small in
    let is : integer_of t n ≡ pos n -ℤ pos (patterns t) = integer_high t n (rw same h) ∙ ap (λ m. pos m -ℤ pos (patterns t)) same in
    rw is (fits_between t (pos n -ℤ pos (patterns t)) (omega (arith, ints)) (omega (arith, ints, less t)))

fits_by : (t : ScalarTy) (n : ℕ) (b : Bool) → nat_lt n (patterns t - negatives t) ≡ b → n < patterns t → fits t (integer_of t n) ≡ true
fits_by t n true e small = fits_low t n (grind (arith, nat_tests)) small
fits_by t n false e small = fits_high t n (grind (arith, nat_tests)) small

-- bits of a type are those of their integer
pub exact_of : (t : ScalarTy) (n : ℕ) → n < patterns t → exactly t (integer_of t n) ≡ Some n
exact_of t n small = exactly_fits t (integer_of t n) (fits_by t n (nat_lt n (patterns t - negatives t)) refl small) ∙ ap Some (bits_of_integer t n ∙ wrap_small t n small)

-- ---- from integers

pub record Bits (t : ScalarTy) (z : ℤ) (n : ℕ) : Type 0 where
  pub small : n < patterns t
  pub shown : integer_of t n ≡ z

bits_pos : (t : ScalarTy) (m : ℕ) → m < patterns t - negatives t → Bits t (pos m) (bits_of t (pos m))
unfolding bits_of
bits_pos t m h =
    let small : m < patterns t = omega arith in
    let same : m % patterns t ≡ m = mod-eq_of_lt small in
    record { small = rw same small; shown = rw same (integer_low t m (rw (wrap_small t m small) h) ∙ ap pos (wrap_small t m small)) }

bits_neg : (t : ScalarTy) (m : ℕ) → suc m ≤ negatives t → Bits t (negsuc m) (bits_of t (negsuc m))
unfolding bits_of
bits_neg t m h =
    let l = less t in
    let inside : m < patterns t = omega (arith, l) in
    let same : m % patterns t ≡ m = mod-eq_of_lt inside in
    let small : patterns t - suc m < patterns t = omega (arith, l) in
    let high : patterns t - negatives t ≤ wrap t (patterns t - suc m) = rw (wrap_small t (patterns t - suc m) small) (omega (arith, l)) in
    let is : integer_of t (patterns t - suc m) ≡ negsuc m = integer_high t (patterns t - suc m) high ∙ ap (λ k. pos k -ℤ pos (patterns t)) (wrap_small t (patterns t - suc m) small) ∙ omega (arith, ints, l) in
    record { small = rw same small; shown = rw same is }

within : (t : ScalarTy) (z : ℤ) (b : Bool) → fits t z ≡ b → (n : ℕ) → exactly t z ≡ Some n → (b ≡ true) × (n ≡ bits_of t z)
within t z true e n h = (refl, let same : ◌≡◌ {A = Option ℕ} (Some (bits_of t z)) (Some n) = sym (exactly_fits t z e) ∙ h in cc)
within t z false e n h = let wrong : ◌≡◌ {A = Option ℕ} None (Some n) = sym (exactly_not t z e) ∙ h in absurd cc

in_range : (t : ScalarTy) (z : ℤ) → fits t z ≡ true → Bits t z (bits_of t z)
in_range t (pos m) e = by_test (nat_lt m (patterns t - negatives t)) refl
  where
    by_test : (b : Bool) → nat_lt m (patterns t - negatives t) ≡ b → Bits t (pos m) (bits_of t (pos m))
    by_test true g = bits_pos t m (grind (arith, nat_tests))
    by_test false g = let le : patterns t - negatives t ≤ m = grind (arith, nat_tests) in let no = fits_not_high t (pos m) (omega (arith, ints)) in absurd cc
in_range t (negsuc m) e = by_test (nat_lt m (negatives t)) refl
  where
    by_test : (b : Bool) → nat_lt m (negatives t) ≡ b → Bits t (negsuc m) (bits_of t (negsuc m))
    by_test true g = bits_neg t m (let h : m < negatives t = grind (arith, nat_tests) in omega arith)
    by_test false g = let le : negatives t ≤ m = grind (arith, nat_tests) in let no = fits_not_low t (negsuc m) (omega (arith, ints)) in absurd cc

-- the bits that an integer has in a type stand for it
pub bits_for : (t : ScalarTy) (z : ℤ) (n : ℕ) → exactly t z ≡ Some n → Bits t z n
bits_for t z n h =
    let (inside, same) = within t z (fits t z) refl n h in
    subst (Bits t z) (sym same) (in_range t z inside)
