-- The patterns of the types, and the integers that they stand for.
use Rattle.std.proofs.Common.{◌≡◌, refl, sym, ◌∙◌, ap, arith, ℕ, ◌+◌, ◌-◌, ◌*◌, ◌/◌, ◌%◌, ◌^◌, ◌<◌, ◌≤◌, Bool, true, false, nat_lt, Some, None}
use Rattle.std.specs.Prelude.{ℤ, pos, negsuc, ◌-ℤ◌, neg_ℤ, ◌≤ℤ◌, ◌<ℤ◌, IsTrue, FitsSigned, bit_and, if◌then◌else◌}
use Rattle.std.specs.Int.{w128, cast_unsigned, cast_signed}
use Rattle.std.proofs.lemmas.Int.{ints, to_z_pos}
use Rattle.std.proofs.lemmas.Nat.{mod_below, and_mask, pow_pos}
use Rattle.std.proofs.Math.Nat.{mod-eq_of_lt}
use Rattle.mir_syntax.specs.declared.types.IntTy.TheVariants.{I8, I16, I32, I64, I128, Isize, U8, U16, U32, U64, U128, Usize}
use Rattle.mir_syntax.specs.declared.types.ScalarTy.{ScalarTy}
use Rattle.mir_syntax.specs.declared.types.ScalarTy.TheVariants.{Bool as Boolean, Int}
use Rattle.mir_num.specs.Widths.{width_of, is_signed, patterns, negatives}
use Rattle.mir_num.specs.Numbers.{wrap, integer_of, bits_of, fits, exactly, modulo}
use Rattle.mir_num.proofs.Modulo.{mod_of_multiple, raised}

-- the patterns of a u128 are a multiple of a type's
pub whole : (t : ScalarTy) → (k : ℕ) × (k * patterns t ≡ 2 ^ 128)
whole Boolean = (2 ^ 127, refl)
whole (Int I8) = (2 ^ 120, refl)
whole (Int I16) = (2 ^ 112, refl)
whole (Int I32) = (2 ^ 96, refl)
whole (Int I64) = (2 ^ 64, refl)
whole (Int I128) = (1, refl)
whole (Int Isize) = (2 ^ 64, refl)
whole (Int U8) = (2 ^ 120, refl)
whole (Int U16) = (2 ^ 112, refl)
whole (Int U32) = (2 ^ 96, refl)
whole (Int U64) = (2 ^ 64, refl)
whole (Int U128) = (1, refl)
whole (Int Usize) = (2 ^ 64, refl)

-- half of the patterns of a type with a sign are negative
pub half : (t : ScalarTy) → IsTrue (is_signed t) → (patterns t ≡ negatives t + negatives t) × (0 < negatives t) × (negatives t ≤ 2 ^ 127)
half Boolean h = absurd (grind (arith, h))
half (Int I8) h = (refl, omega arith, omega arith)
half (Int I16) h = (refl, omega arith, omega arith)
half (Int I32) h = (refl, omega arith, omega arith)
half (Int I64) h = (refl, omega arith, omega arith)
half (Int I128) h = (refl, omega arith, omega arith)
half (Int Isize) h = (refl, omega arith, omega arith)
half (Int U8) h = absurd (grind (arith, h))
half (Int U16) h = absurd (grind (arith, h))
half (Int U32) h = absurd (grind (arith, h))
half (Int U64) h = absurd (grind (arith, h))
half (Int U128) h = absurd (grind (arith, h))
half (Int Usize) h = absurd (grind (arith, h))

pub no_negatives : (t : ScalarTy) → is_signed t ≡ false → negatives t ≡ 0
no_negatives t h = ap (λ b. if b then 2 ^ (width_of t - 1) else 0) h

pub patterns_pos : (t : ScalarTy) → 0 < patterns t
patterns_pos t = pow_pos (width_of t)

pub patterns_bound : (t : ScalarTy) → patterns t ≤ 2 ^ 128
patterns_bound Boolean = omega arith
patterns_bound (Int I8) = omega arith
patterns_bound (Int I16) = omega arith
patterns_bound (Int I32) = omega arith
patterns_bound (Int I64) = omega arith
patterns_bound (Int I128) = omega arith
patterns_bound (Int Isize) = omega arith
patterns_bound (Int U8) = omega arith
patterns_bound (Int U16) = omega arith
patterns_bound (Int U32) = omega arith
patterns_bound (Int U64) = omega arith
patterns_bound (Int U128) = omega arith
patterns_bound (Int Usize) = omega arith

pub wrap_below : (t : ScalarTy) (a : ℕ) → wrap t a < patterns t
unfolding wrap
wrap_below t a = mod_below a (patterns t) (patterns_pos t)

-- a mask keeps the low bits
pub masked : (t : ScalarTy) (a mask : ℕ) → mask + 1 ≡ patterns t → bit_and a mask ≡ wrap t a
unfolding wrap
masked t a mask e = ap (bit_and a) (omega (arith, e)) ∙ and_mask a (width_of t)

-- what a u128 holds of a greater number has the same low bits
pub wrap_of_rest : (t : ScalarTy) (n : ℕ) → wrap t (n % 2 ^ 128) ≡ wrap t n
unfolding wrap
wrap_of_rest t n = let (k, e) = whole t in ap (λ x. (n % x) % patterns t) (sym e) ∙ mod_of_multiple n k (patterns t)

pub integer_low : (t : ScalarTy) (a : ℕ) → wrap t a < patterns t - negatives t → integer_of t a ≡ pos (wrap t a)
unfolding integer_of
integer_low t a h = grind (arith, h)

pub integer_high : (t : ScalarTy) (a : ℕ) → patterns t - negatives t ≤ wrap t a → integer_of t a ≡ pos (wrap t a) -ℤ pos (patterns t)
unfolding integer_of
integer_high t a h = grind (arith, h)

pub integer_unsigned : (t : ScalarTy) (a : ℕ) → is_signed t ≡ false → integer_of t a ≡ pos (wrap t a)
integer_unsigned t a h = integer_low t a (omega (arith, no_negatives t h, wrap_below t a))

pub bits_of_integer : (t : ScalarTy) (a : ℕ) → bits_of t (integer_of t a) ≡ wrap t a
unfolding bits_of
bits_of_integer t a = go (nat_lt (wrap t a) (patterns t - negatives t)) refl
  where
    again : wrap t a % patterns t ≡ wrap t a
    again = mod-eq_of_lt (wrap_below t a)

    go : (b : Bool) → nat_lt (wrap t a) (patterns t - negatives t) ≡ b → modulo (patterns t) (integer_of t a) ≡ wrap t a
    go true e = ap (modulo (patterns t)) (integer_low t a (grind (arith, e))) ∙ again
    go false e = ap (modulo (patterns t)) (integer_high t a (grind (arith, e))) ∙ raised (patterns t) (pos (wrap t a) -ℤ pos (patterns t)) 1 (wrap t a) (patterns_pos t) (omega (arith, ints)) ∙ again

-- the two's complement of an i128 has the low bits of the integer
pub bits_of_cast : (t : ScalarTy) (z : ℤ) → FitsSigned w128 z → wrap t (cast_unsigned w128 z) ≡ bits_of t z
unfolding wrap bits_of
bits_of_cast t (pos n) f = refl
bits_of_cast t (negsuc n) f = let (k, e) = whole t in sym (raised (patterns t) (negsuc n) k (cast_unsigned w128 (negsuc n)) (patterns_pos t) (omega (arith, ints, e, f)))

pub low_value : (t : ScalarTy) (a mask : ℕ) → IsTrue (is_signed t) → mask + 1 ≡ patterns t → bit_and a mask ≤ mask / 2 → cast_signed w128 (bit_and a mask) ≡ integer_of t a
low_value t a mask h e l =
    let (d, p, b) = half t h in
    let m : bit_and a mask ≡ wrap t a = masked t a mask e in
    to_z_pos w128 (bit_and a mask) (omega (arith, l, d, b, e)) ∙ ap pos m ∙ sym (integer_low t a (omega (arith, m, l, d, e, p)))

pub high_value : (t : ScalarTy) (a mask : ℕ) → IsTrue (is_signed t) → mask + 1 ≡ patterns t → mask / 2 < bit_and a mask → cast_signed w128 (cast_unsigned w128 (negsuc 0 -ℤ cast_signed w128 (mask - bit_and a mask))) ≡ integer_of t a
high_value t a mask h e l =
    let (d, p, b) = half t h in
    let m : bit_and a mask ≡ wrap t a = masked t a mask e in
    let q : wrap t a < patterns t = wrap_below t a in
    omega (arith, ints, m, l, d, e, b, q) ∙ sym (integer_high t a (omega (arith, m, l, d, e)))

-- ---- what fits

pub exactly_fits : (t : ScalarTy) (z : ℤ) → fits t z ≡ true → exactly t z ≡ Some (bits_of t z)
unfolding exactly
exactly_fits t z h = ap (λ b. if b then Some (bits_of t z) else None) h

pub exactly_not : (t : ScalarTy) (z : ℤ) → fits t z ≡ false → exactly t z ≡ None
unfolding exactly
exactly_not t z h = ap (λ b. if b then Some (bits_of t z) else None) h

pub fits_between : (t : ScalarTy) (z : ℤ) → neg_ℤ (pos (negatives t)) ≤ℤ z → z <ℤ pos (patterns t - negatives t) → fits t z ≡ true
unfolding fits
fits_between t z l h = grind (arith, ints, l, h)

pub fits_not_low : (t : ScalarTy) (z : ℤ) → z <ℤ neg_ℤ (pos (negatives t)) → fits t z ≡ false
unfolding fits
fits_not_low t z l = grind (arith, ints, l)

pub fits_not_high : (t : ScalarTy) (z : ℤ) → pos (patterns t - negatives t) ≤ℤ z → fits t z ≡ false
unfolding fits
fits_not_high t z l = grind (arith, ints, l)
