-- The integers that patterns stand for.
use Rattle.std.proofs.Common.{◌≡◌, ◌∙◌, sym, ap, ℕ, ◌+◌, ◌-◌, ◌/◌, ◌<◌, ◌≤◌, true, false, arith, pos}
use Rattle.std.specs.Prelude.{neg_ℤ}
use Rattle.std.proofs.lemmas.Int.{ints}
use Rattle.mir_syntax.specs.declared.types.ScalarTy.{ScalarTy}
use Rattle.mir_num.specs.Widths.{is_signed, patterns}
use Rattle.mir_num.specs.Numbers.{wrap, integer_of}
use Rattle.mir_num.proofs.Patterns.{half, wrap_below, integer_low, integer_high, integer_unsigned}

pub unsigned_shown : (t : ScalarTy) (a low : ℕ) → is_signed t ≡ false → low ≡ wrap t a → pos low ≡ integer_of t a
unsigned_shown t a low h e = ap pos e ∙ sym (integer_unsigned t a h)

pub low_shown : (t : ScalarTy) (a low g : ℕ) → is_signed t ≡ true → low ≡ wrap t a → g + 1 ≡ patterns t → low ≤ g / 2 → pos low ≡ integer_of t a
low_shown t a low g h e k l =
    let (d, p, b) = half t h in
    ap pos e ∙ sym (integer_low t a (omega (arith, e, l, d, k, p)))

pub within : (t : ScalarTy) (a low g : ℕ) → low ≡ wrap t a → g + 1 ≡ patterns t → low ≤ g
within t a low g e k = let q : wrap t a < patterns t = wrap_below t a in omega (arith, e, k, q)

pub high_shown : (t : ScalarTy) (a low g : ℕ) → is_signed t ≡ true → low ≡ wrap t a → g + 1 ≡ patterns t → g / 2 < low → neg_ℤ (pos (g - low + 1)) ≡ integer_of t a
high_shown t a low g h e k l =
    let (d, p, b) = half t h in
    let q : wrap t a < patterns t = wrap_below t a in
    omega (arith, ints, e, l, d, k, b, q) ∙ sym (integer_high t a (omega (arith, e, l, d, k)))
