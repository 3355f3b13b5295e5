-- The bits of integers, where a type has them.
use Rattle.std.proofs.Common.{◌≡◌, ◌∙◌, sym, ap, ℕ, zero, suc, ◌+◌, ◌-◌, ◌<◌, ◌≤◌, Some, None, arith, pos, negsuc}
use Rattle.std.specs.Prelude.{◌≤ℤ◌, ◌<ℤ◌, neg_ℤ}
use Rattle.std.proofs.lemmas.Int.{ints}
use native.Mathlib.Nat.{mod-eq_of_lt}
use Rattle.mir_syntax.specs.declared.types.ScalarTy.{ScalarTy}
use Rattle.mir_num.specs.Widths.{patterns, negatives}
use Rattle.mir_num.specs.Numbers.{bits_of, exactly}
use Rattle.mir_num.proofs.Patterns.{exactly_fits, exactly_not, fits_between, fits_not_low, fits_not_high}

pub up_fits : (t : ScalarTy) (size : ℕ) → size + negatives t < patterns t → Some size ≡ exactly t (pos size)
unfolding bits_of
up_fits t size h =
    let low : neg_ℤ (pos (negatives t)) ≤ℤ pos size = omega (arith, ints) in
    let high : pos size <ℤ pos (patterns t - negatives t) = omega (arith, ints) in
    let below : size < patterns t = omega arith in
    ap Some (sym (mod-eq_of_lt below)) ∙ sym (exactly_fits t (pos size) (fits_between t (pos size) low high))

pub up_over : (t : ScalarTy) (size : ℕ) → patterns t ≤ size + negatives t → None ≡ exactly t (pos size)
up_over t size h = sym (exactly_not t (pos size) (fits_not_high t (pos size) (omega (arith, ints))))

pub down_fits : (t : ScalarTy) (size : ℕ) → 0 < size → size ≤ negatives t → negatives t < patterns t → Some (patterns t - size) ≡ exactly t (neg_ℤ (pos size))
unfolding bits_of
down_fits t zero some h k = absurd (omega arith)
down_fits t (suc n) some h k =
    let low : neg_ℤ (pos (negatives t)) ≤ℤ negsuc n = omega (arith, ints) in
    let high : negsuc n <ℤ pos (patterns t - negatives t) = omega (arith, ints) in
    let below : n < patterns t = omega arith in
    ap (λ m. Some (patterns t - suc m)) (sym (mod-eq_of_lt below)) ∙ sym (exactly_fits t (negsuc n) (fits_between t (negsuc n) low high))

pub down_over : (t : ScalarTy) (size : ℕ) → negatives t < size → None ≡ exactly t (neg_ℤ (pos size))
down_over t size h = sym (exactly_not t (neg_ℤ (pos size)) (fits_not_low t (neg_ℤ (pos size)) (omega (arith, ints))))
