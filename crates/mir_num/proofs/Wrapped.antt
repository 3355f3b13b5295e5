-- What 128-bit operations give, as the operators of the types.
use Rattle.std.proofs.Common.{◌≡◌, refl, sym, ◌∙◌, ap, ap₂, subst, arith, ℕ, zero, suc, ◌+◌, ◌-◌, ◌*◌, ◌/◌, ◌%◌, ◌^◌, ◌<◌, ◌≤◌, Bool, true, false, nat_lt, Option, Some, None}
use Rattle.std.specs.Prelude.{ℤ, pos, negsuc, ◌+ℤ◌, ◌-ℤ◌, ◌*ℤ◌, neg_ℤ, ◌≤ℤ◌, ◌≢◌, int_lt, int_le, int_div, int_rem, IsTrue, not, FitsSigned, SomeIff, MatchOption, is_some}
use Rattle.std.specs.Int.{w128, cast_unsigned, cast_signed, int_shr, CanDivide}
use Rattle.std.proofs.lemmas.Int.{ints, to_z-of_z}
use Rattle.std.proofs.lemmas.Nat.{shr_le, mul-mod}
use Rattle.std.proofs.Math.Nat.{mod-eq_of_lt, mod-le, add-mod_right, add-mod-mod, div-le_self}
use Rattle.mir_syntax.specs.declared.types.ScalarTy.{ScalarTy}
use Rattle.mir_num.specs.Widths.{is_signed, patterns, negatives}
use Rattle.mir_num.specs.Numbers.{wrap, integer_of, bits_of, fits, exactly, modulo, quotient, remainder, remainder_beside, cast}
use Rattle.mir_num.proofs.Modulo.{mod_of_sum, raised, modulo-add, modulo-sub, modulo-mul, modulo-neg, taken_from}
use Rattle.mir_num.proofs.Patterns.{whole, half, no_negatives, patterns_pos, patterns_bound, wrap_below, wrap_of_rest, integer_unsigned, bits_of_integer, exactly_fits, exactly_not, fits_between, fits_not_low, fits_not_high}

-- a fact of two numbers that were converted to bits and back
pub at_values : (P : ℤ → ℤ → Type 0) (x y : ℤ) → FitsSigned w128 x → FitsSigned w128 y → P (cast_signed w128 (cast_unsigned w128 x)) (cast_signed w128 (cast_unsigned w128 y)) → P x y
at_values P x y f g h = subst (λ u. P u y) (to_z-of_z w128 x f) (subst (λ v. P (cast_signed w128 (cast_unsigned w128 x)) v) (to_z-of_z w128 y g) h)

pub at_two : (P : ℤ → ℤ → Type 0) (x y u v : ℤ) → x ≡ u → y ≡ v → P x y → P u v
at_two P x y u v p q h = subst (λ s. P s v) p (subst (P x) q h)

pub at_equal : (P : ℤ → ℤ → Type 0) (x y u v : ℤ) → FitsSigned w128 x → FitsSigned w128 y → x ≡ u → y ≡ v → P (cast_signed w128 (cast_unsigned w128 x)) (cast_signed w128 (cast_unsigned w128 y)) → P u v
at_equal P x y u v f g p q h = at_two P x y u v p q (at_values P x y f g h)

pub le_not_lt : (x y : ℤ) → int_le x y ≡ not (int_lt y x)
le_not_lt x y = grind (arith, ints)

-- ---- wrapping

wrap_add : (t : ScalarTy) (a b : ℕ) → wrap t (a + b) ≡ (wrap t a + wrap t b) % patterns t
unfolding wrap
wrap_add t a b = sym (mod_of_sum a b (patterns t))

wrap_taken : (t : ScalarTy) (b : ℕ) → b ≤ 2 ^ 128 → wrap t (2 ^ 128 - b) ≡ (patterns t - wrap t b) % patterns t
unfolding wrap
wrap_taken t b h =
    let (k, e) = whole t in
    ap (λ n. (n - b) % patterns t) (sym e) ∙ taken_from k (patterns t) b (patterns_pos t) (omega (arith, e, h))

wrap_again : (t : ScalarTy) (a : ℕ) → wrap t a % patterns t ≡ wrap t a
wrap_again t a = mod-eq_of_lt (wrap_below t a)

wrap_mul : (t : ScalarTy) (a b : ℕ) → wrap t (a * b) ≡ (wrap t a * wrap t b) % patterns t
unfolding wrap
wrap_mul t a b = mul-mod a b (patterns t)

pub wrapped_add : (t : ScalarTy) (a b : ℕ) → wrap t ((a + b) % 2 ^ 128) ≡ bits_of t (integer_of t a +ℤ integer_of t b)
unfolding bits_of
wrapped_add t a b =
    wrap_of_rest t (a + b) ∙ wrap_add t a b
    ∙ sym (modulo-add (patterns t) (integer_of t a) (integer_of t b) (patterns_pos t) ∙ ap₂ (λ u v. (u + v) % patterns t) (bits_of_integer t a) (bits_of_integer t b))

pub wrapped_sub : (t : ScalarTy) (a b : ℕ) → b < 2 ^ 128 → wrap t ((a + (2 ^ 128 - b)) % 2 ^ 128) ≡ bits_of t (integer_of t a -ℤ integer_of t b)
unfolding bits_of
wrapped_sub t a b h =
    wrap_of_rest t (a + (2 ^ 128 - b)) ∙ wrap_add t a (2 ^ 128 - b) ∙ ap (λ v. (wrap t a + v) % patterns t) (wrap_taken t b (omega (arith, h)))
    ∙ add-mod-mod (wrap t a) (patterns t - wrap t b) (patterns t)
    ∙ sym (modulo-sub (patterns t) (integer_of t a) (integer_of t b) (patterns_pos t) ∙ ap₂ (λ u v. (u + (patterns t - v)) % patterns t) (bits_of_integer t a) (bits_of_integer t b))

pub wrapped_mul : (t : ScalarTy) (a b : ℕ) → wrap t ((a * b) % 2 ^ 128) ≡ bits_of t (integer_of t a *ℤ integer_of t b)
unfolding bits_of
wrapped_mul t a b =
    wrap_of_rest t (a * b) ∙ wrap_mul t a b
    ∙ sym (modulo-mul (patterns t) (integer_of t a) (integer_of t b) (patterns_pos t) ∙ ap₂ (λ u v. (u * v) % patterns t) (bits_of_integer t a) (bits_of_integer t b))

pub wrapped_neg : (t : ScalarTy) (a : ℕ) → a < 2 ^ 128 → wrap t ((0 + (2 ^ 128 - a)) % 2 ^ 128) ≡ bits_of t (neg_ℤ (integer_of t a))
unfolding bits_of
wrapped_neg t a h =
    wrap_of_rest t (0 + (2 ^ 128 - a)) ∙ ap (wrap t) (let e : 0 + (2 ^ 128 - a) ≡ 2 ^ 128 - a = omega arith in e) ∙ wrap_taken t a (omega (arith, h))
    ∙ sym (modulo-neg (patterns t) (integer_of t a) (patterns_pos t) ∙ ap (λ u. (patterns t - u) % patterns t) (bits_of_integer t a))

pub wrapped_not : (t : ScalarTy) (a : ℕ) → a < 2 ^ 128 → wrap t (2 ^ 128 - 1 - a) ≡ bits_of t (neg_ℤ (pos 1) -ℤ integer_of t a)
unfolding bits_of wrap
wrapped_not t a h =
    let (k, e) = whole t in
    let b : wrap t a < patterns t = wrap_below t a in
    let p : 0 < patterns t = patterns_pos t in
    let turned : (2 ^ 128 - 1 - a) % patterns t ≡ patterns t - suc (wrap t a) = sym (raised (patterns t) (negsuc a) k (2 ^ 128 - 1 - a) p (omega (arith, ints, e, h))) in
    let least : patterns t - suc (0 % patterns t) ≡ patterns t - 1 = ap (λ x. patterns t - suc x) (mod-eq_of_lt p) in
    let sum : patterns t - 1 + (patterns t - wrap t a) ≡ (patterns t - suc (wrap t a)) + patterns t = omega (arith, b) in
    turned
    ∙ sym (modulo-sub (patterns t) (neg_ℤ (pos 1)) (integer_of t a) p ∙ ap₂ (λ u v. (u + (patterns t - v)) % patterns t) least (bits_of_integer t a)
    ∙ ap (λ x. x % patterns t) sum ∙ add-mod_right (patterns t - suc (wrap t a)) (patterns t) ∙ mod-eq_of_lt (omega (arith, b)))

pub cast_unsigned_is : (from to : ScalarTy) (a : ℕ) → is_signed from ≡ false → wrap to (wrap from a) ≡ cast from to a
unfolding cast bits_of wrap
cast_unsigned_is from to a h = sym (ap (modulo (patterns to)) (integer_unsigned from a h))

pub shifted_unsigned : (t : ScalarTy) (a bits : ℕ) → is_signed t ≡ false → wrap t a / 2 ^ bits ≡ bits_of t (int_shr (integer_of t a) bits)
unfolding bits_of
shifted_unsigned t a bits h =
    sym (ap (λ z. modulo (patterns t) (int_shr z bits)) (integer_unsigned t a h) ∙ mod-eq_of_lt (omega (arith, shr_le (wrap t a) bits, wrap_below t a)))

-- ---- exact results

pub unsigned_add : (r : Option ℕ) (x y : ℕ) → SomeIff r (x + y < 2 ^ 128) (x + y) → MatchOption r ((n : ℕ) → n < 2 ^ 128 → pos x +ℤ pos y ≢ pos n) (λ n. pos x +ℤ pos y ≡ pos n)
unsigned_add None x y h = λ n l e. h (omega (arith, ints, e, l))
unsigned_add (Some n) x y (p, q) = ap pos (sym q)

pub unsigned_sub : (r : Option ℕ) (x y : ℕ) → x < 2 ^ 128 → SomeIff r (y ≤ x) (x - y) → MatchOption r ((n : ℕ) → n < 2 ^ 128 → pos x -ℤ pos y ≢ pos n) (λ n. pos x -ℤ pos y ≡ pos n)
unsigned_sub None x y f h = λ n l e. h (omega (arith, ints, e))
unsigned_sub (Some n) x y f (p, q) = omega (arith, ints, p, q)

pub unsigned_mul : (r : Option ℕ) (x y : ℕ) → SomeIff r (x * y < 2 ^ 128) (x * y) → MatchOption r ((n : ℕ) → n < 2 ^ 128 → pos x *ℤ pos y ≢ pos n) (λ n. pos x *ℤ pos y ≡ pos n)
unsigned_mul None x y h = λ n l e. h (let e' : pos (x * y) ≡ pos n = e in omega (arith, ints, e', l))
unsigned_mul (Some n) x y (p, q) = ap pos (sym q)

-- what fits a type with a sign fits an i128
pub fits_signed : (t : ScalarTy) (z : ℤ) → IsTrue (is_signed t) → fits t z ≡ true → FitsSigned w128 z
unfolding fits
fits_signed t z h e = let (d, p, b) = half t h in grind (arith, ints, d, p, b, e)

pub none_signed : (t : ScalarTy) (z : ℤ) → IsTrue (is_signed t) → ¬ (FitsSigned w128 z) → exactly t z ≡ None
none_signed t z h out = go (fits t z) refl
  where
    go : (b : Bool) → fits t z ≡ b → exactly t z ≡ None
    go true e = absurd (out (fits_signed t z h e))
    go false e = exactly_not t z e

pub exact_unsigned_none : (t : ScalarTy) (z : ℤ) → is_signed t ≡ false → ((n : ℕ) → n < 2 ^ 128 → z ≢ pos n) → exactly t z ≡ None
exact_unsigned_none t (pos n) h out = exactly_not t (pos n) (fits_not_high t (pos n) (go (nat_lt n (2 ^ 128)) refl))
  where
    go : (b : Bool) → nat_lt n (2 ^ 128) ≡ b → pos (patterns t - negatives t) ≤ℤ pos n
    go true e = absurd (out n (grind (arith, e)) refl)
    go false e = let l : 2 ^ 128 ≤ n = grind (arith, e) in omega (arith, ints, l, patterns_bound t)
exact_unsigned_none t (negsuc n) h out = exactly_not t (negsuc n) (fits_not_low t (negsuc n) (omega (arith, ints, no_negatives t h)))

pub exact_unsigned_some : (t : ScalarTy) (n : ℕ) → is_signed t ≡ false → n < patterns t → exactly t (pos n) ≡ Some n
unfolding bits_of
exact_unsigned_some t n h l = exactly_fits t (pos n) (fits_between t (pos n) (omega (arith, ints, no_negatives t h)) (omega (arith, ints, no_negatives t h, l))) ∙ ap Some (mod-eq_of_lt l)

pub exact_unsigned_large : (t : ScalarTy) (n : ℕ) → patterns t ≤ n → exactly t (pos n) ≡ None
exact_unsigned_large t n l = exactly_not t (pos n) (fits_not_high t (pos n) (omega (arith, ints, l)))

-- no exact result is what doesn't fit
pub none_where_not_fits : (t : ScalarTy) (z : ℤ) (r : Option ℕ) (b : Bool) → r ≡ exactly t z → is_some r ≡ not b → b ≡ not (fits t z)
none_where_not_fits t z r b e f = go (fits t z) refl
  where
    go : (x : Bool) → fits t z ≡ x → b ≡ not (fits t z)
    go true h = let g : r ≡ Some (bits_of t z) = e ∙ exactly_fits t z h in grind (arith, f, g, h)
    go false h = let g : r ≡ None = e ∙ exactly_not t z h in grind (arith, f, g, h)

-- ---- quotients

pub quotient_none : (t : ScalarTy) (x y : ℤ) → IsTrue (is_signed t) → FitsSigned w128 y → ¬ (CanDivide w128 x y) → quotient t x y ≡ None
unfolding quotient
quotient_none t x (pos zero) h g out = refl
quotient_none t x (pos (suc n)) h g out = none_signed t (int_div x (pos (suc n))) h (λ f. out (omega arith, f))
quotient_none t x (negsuc n) h g out = none_signed t (int_div x (negsuc n)) h (λ f. out (omega (arith, ints, g), f))

pub quotient_some : (t : ScalarTy) (x y : ℤ) → 0 < cast_unsigned w128 y → exactly t (int_div x y) ≡ quotient t x y
unfolding quotient
quotient_some t x (pos zero) h = absurd (omega (arith, h))
quotient_some t x (pos (suc n)) h = refl
quotient_some t x (negsuc n) h = refl

pub quotient_unsigned : (t : ScalarTy) (r : Option ℕ) (x y : ℕ) → is_signed t ≡ false → x < patterns t → SomeIff r (0 < y) (x / y) → r ≡ quotient t (pos x) (pos y)
unfolding quotient
quotient_unsigned t None x zero h l n = refl
quotient_unsigned t None x (suc y) h l n = absurd (n (omega arith))
quotient_unsigned t (Some q) x zero h l (p, e) = absurd (omega (arith, p))
quotient_unsigned t (Some q) x (suc y) h l (p, e) = ap Some e ∙ sym (exact_unsigned_some t (x / suc y) h (omega (arith, div-le_self x (suc y), l)))

pub remainder_none : (t : ScalarTy) (x y : ℤ) → quotient t x y ≡ None → remainder t x y ≡ None
unfolding remainder
remainder_none t x y e = ap (remainder_beside t (int_rem x y)) e

pub remainder_some : (t : ScalarTy) (x y : ℤ) (q : ℕ) → quotient t x y ≡ Some q → remainder t x y ≡ Some (bits_of t (int_rem x y))
unfolding remainder
remainder_some t x y q e = ap (remainder_beside t (int_rem x y)) e

rest_again : (t : ScalarTy) (x y : ℕ) → x < patterns t → bits_of t (pos (x % suc y)) ≡ x % suc y
unfolding bits_of
rest_again t x y l = mod-eq_of_lt (omega (arith, mod-le x (suc y), l))

pub remainder_unsigned : (t : ScalarTy) (r : Option ℕ) (x y : ℕ) → is_signed t ≡ false → x < patterns t → SomeIff r (0 < y) (x % y) → r ≡ remainder t (pos x) (pos y)
remainder_unsigned t None x zero h l n = sym (remainder_none t (pos x) (pos zero) (sym (quotient_unsigned t None x zero h l n)))
remainder_unsigned t None x (suc y) h l n = absurd (n (omega arith))
remainder_unsigned t (Some r) x zero h l (p, e) = absurd (omega (arith, p))
remainder_unsigned t (Some r) x (suc y) h l (p, e) =
    ap Some (e ∙ sym (rest_again t x y l)) ∙ sym (remainder_some t (pos x) (pos (suc y)) (x / suc y) (sym (quotient_unsigned t (Some (x / suc y)) x (suc y) h l (p, refl))))
