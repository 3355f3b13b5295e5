-- The operators on scalars. A scalar is a bit pattern, a natural number of which the low bits of its type's width count; it stands for an
-- integer, and each operator is said of integers. Where an operator has no result the run is undefined.
use Rattle.std.specs.Prelude.{ℕ, zero, suc, ◌-◌, ◌*◌, ◌%◌, ◌^◌, Bool, true, false, not, ◌&&◌, nat_eq, nat_lt, if◌then◌else◌, Option, Some, None, ℤ, pos, negsuc, ◌+ℤ◌, ◌-ℤ◌, ◌*ℤ◌, neg_ℤ, int_lt, int_le, int_div, int_rem, bit_and, bit_or, bit_xor}
use Rattle.std.specs.Int.{int_shr}
use Rattle.mir_syntax.specs.declared.types.ScalarTy.{ScalarTy}
use Rattle.mir_syntax.specs.declared.body.BinOp.{BinOp}
use Rattle.mir_syntax.specs.declared.body.BinOp.TheVariants.{Add, Sub, Mul, Div, Rem, BitXor, BitAnd, BitOr, Shl, Shr, Eq, Ne, Lt, Le, Gt, Ge, AddUnchecked, SubUnchecked, MulUnchecked}
use Rattle.mir_syntax.specs.declared.body.OverOp.{OverOp}
use Rattle.mir_syntax.specs.declared.body.OverOp.TheVariants as over_op
use Rattle.mir_syntax.specs.declared.body.UnOp.{UnOp}
use Rattle.mir_syntax.specs.declared.body.UnOp.TheVariants.{Not, Neg}
use Rattle.mir_num.specs.Widths.{width_of, patterns, negatives}

-- the low bits of a number, as many as the type has
unfoldable pub wrap : ScalarTy → ℕ → ℕ
wrap t n = n % patterns t

-- the integer that a pattern stands for: its upper half is negative where the type has a sign (Rust Reference: two's complement)
unfoldable pub integer_of : ScalarTy → ℕ → ℤ
integer_of t n = if nat_lt (wrap t n) (patterns t - negatives t) then pos (wrap t n) else pos (wrap t n) -ℤ pos (patterns t)

-- an integer modulo a positive number
abbrev pub modulo : ℕ → ℤ → ℕ
modulo m (pos n) = n % m
modulo m (negsuc n) = m - suc (n % m)

-- the pattern that stands for an integer
unfoldable pub bits_of : ScalarTy → ℤ → ℕ
bits_of t z = modulo (patterns t) z

-- the integer is one of the type's
unfoldable pub fits : ScalarTy → ℤ → Bool
fits t z = int_le (neg_ℤ (pos (negatives t))) z && int_lt z (pos (patterns t - negatives t))

-- an exact result, where it fits
unfoldable pub exactly : ScalarTy → ℤ → Option ℕ
exactly t z = if fits t z then Some (bits_of t z) else None

-- truncated toward zero; none by zero, and of the least value by -1, the one quotient that doesn't fit (Rust Reference, operators)
unfoldable pub quotient : ScalarTy → ℤ → ℤ → Option ℕ
quotient t x (pos zero) = None
quotient t x y = exactly t (int_div x y)

-- what the quotient leaves, with the sign of the left operand; there where the quotient is
abbrev pub remainder_beside : ScalarTy → ℤ → Option ℕ → Option ℕ
remainder_beside t r None = None
remainder_beside t r (Some q) = Some (bits_of t r)

unfoldable pub remainder : ScalarTy → ℤ → ℤ → Option ℕ
remainder t x y = remainder_beside t (int_rem x y) (quotient t x y)

unfoldable pub flag : Bool → ℕ
flag true = 1
flag false = 0

-- Rust Reference, operators, with the wrapping forms of MIR; this project's own: a shift's amount is taken modulo the width
unfoldable pub binop : BinOp → ScalarTy → ℕ → ℕ → Option ℕ
binop Add t a b = Some (bits_of t (integer_of t a +ℤ integer_of t b))
binop Sub t a b = Some (bits_of t (integer_of t a -ℤ integer_of t b))
binop Mul t a b = Some (bits_of t (integer_of t a *ℤ integer_of t b))
binop Div t a b = quotient t (integer_of t a) (integer_of t b)
binop Rem t a b = remainder t (integer_of t a) (integer_of t b)
binop BitXor t a b = Some (wrap t (bit_xor a b))
binop BitAnd t a b = Some (wrap t (bit_and a b))
binop BitOr t a b = Some (wrap t (bit_or a b))
binop Shl t a b = Some (wrap t (a * 2 ^ (b % width_of t)))
binop Shr t a b = Some (bits_of t (int_shr (integer_of t a) (b % width_of t)))
binop Eq t a b = Some (flag (nat_eq (wrap t a) (wrap t b)))
binop Ne t a b = Some (flag (not (nat_eq (wrap t a) (wrap t b))))
binop Lt t a b = Some (flag (int_lt (integer_of t a) (integer_of t b)))
binop Le t a b = Some (flag (int_le (integer_of t a) (integer_of t b)))
binop Gt t a b = Some (flag (int_lt (integer_of t b) (integer_of t a)))
binop Ge t a b = Some (flag (int_le (integer_of t b) (integer_of t a)))
binop AddUnchecked t a b = exactly t (integer_of t a +ℤ integer_of t b)
binop SubUnchecked t a b = exactly t (integer_of t a -ℤ integer_of t b)
binop MulUnchecked t a b = exactly t (integer_of t a *ℤ integer_of t b)

unfoldable pub exact : OverOp → ℤ → ℤ → ℤ
exact over_op.Add x y = x +ℤ y
exact over_op.Sub x y = x -ℤ y
exact over_op.Mul x y = x *ℤ y

-- the wrapped result, and whether the exact one doesn't fit
unfoldable pub over : OverOp → ScalarTy → ℕ → ℕ → ℕ × Bool
over op t a b =
    let z : ℤ = exact op (integer_of t a) (integer_of t b) in
    (bits_of t z, not (fits t z))

-- every bit turned, which is -1 - x; and the wrapped -x
unfoldable pub unary : UnOp → ScalarTy → ℕ → ℕ
unary Not t a = bits_of t (neg_ℤ (pos 1) -ℤ integer_of t a)
unary Neg t a = bits_of t (neg_ℤ (integer_of t a))

-- the same integer in another type, wrapped: a narrower type truncates, a wider one extends by the sign (Rust Reference, numeric cast)
unfoldable pub cast : ScalarTy → ScalarTy → ℕ → ℕ
cast from to a = bits_of to (integer_of from a)
