-- The operators on numerals.
use Rattle.std.proofs.Common.{◌≡◌, refl, ◌+◌, ◌^◌, ◌-◌, true, false, Some, None}
use Rattle.std.specs.Prelude.{negsuc}
use Rattle.mir_syntax.specs.declared.types.IntTy.TheVariants.{I8, I16, I32, I64, I128, Isize, U8, U16, U32, U64, U128}
use Rattle.mir_syntax.specs.declared.types.ScalarTy.TheVariants.{Bool as Boolean, Int}
use Rattle.mir_syntax.specs.declared.body.BinOp.TheVariants.{Add, Sub, Mul, Div, Rem, BitXor, Shl, Shr, Lt, AddUnchecked, MulUnchecked}
use Rattle.mir_syntax.specs.declared.body.OverOp.TheVariants as over_op
use Rattle.mir_syntax.specs.declared.body.UnOp.TheVariants.{Not, Neg}
use Rattle.mir_num.specs.Numbers.{wrap, integer_of, bits_of, fits, exactly, quotient, remainder, flag, binop, exact, over, unary, cast}

Opened : Type 0
unfolding wrap integer_of bits_of fits exactly quotient remainder flag binop exact over unary cast
Opened = Unit {0}

add_wraps : binop Add (Int U8) 255 1 ≡ Some 0
unfolding Opened
add_wraps = refl

sub_wraps : binop Sub (Int U128) 0 1 ≡ Some (2 ^ 128 - 1)
unfolding Opened
sub_wraps = refl

mul_wraps : binop Mul (Int I8) 128 255 ≡ Some 128
unfolding Opened
mul_wraps = refl

div_truncates : binop Div (Int I32) (2 ^ 32 - 7) 2 ≡ Some (2 ^ 32 - 3)
unfolding Opened
div_truncates = refl

div_of_least_by_minus_one : binop Div (Int I8) 128 255 ≡ None
unfolding Opened
div_of_least_by_minus_one = refl

div_of_least_i128 : binop Div (Int I128) (2 ^ 127) (2 ^ 128 - 1) ≡ None
unfolding Opened
div_of_least_i128 = refl

div_by_zero : binop Div (Int U64) 7 0 ≡ None
unfolding Opened
div_by_zero = refl

rem_keeps_the_left_sign : binop Rem (Int I16) (2 ^ 16 - 7) 2 ≡ Some (2 ^ 16 - 1)
unfolding Opened
rem_keeps_the_left_sign = refl

rem_of_least_by_minus_one : binop Rem (Int I64) (2 ^ 63) (2 ^ 64 - 1) ≡ None
unfolding Opened
rem_of_least_by_minus_one = refl

xor_of_bools : binop BitXor Boolean 1 1 ≡ Some 0
unfolding Opened
xor_of_bools = refl

shl_modulo_width : binop Shl (Int U8) 1 9 ≡ Some 2
unfolding Opened
shl_modulo_width = refl

shr_copies_the_sign : binop Shr (Int I8) 128 7 ≡ Some 255
unfolding Opened
shr_copies_the_sign = refl

shr_unsigned : binop Shr (Int U128) (2 ^ 127) 127 ≡ Some 1
unfolding Opened
shr_unsigned = refl

signed_order : binop Lt (Int I8) 255 0 ≡ Some 1
unfolding Opened
signed_order = refl

unsigned_order : binop Lt (Int U8) 255 0 ≡ Some 0
unfolding Opened
unsigned_order = refl

unchecked_fits : binop AddUnchecked (Int U8) 250 5 ≡ Some 255
unfolding Opened
unchecked_fits = refl

unchecked_overflows : binop AddUnchecked (Int U8) 255 1 ≡ None
unfolding Opened
unchecked_overflows = refl

mul_unchecked_signed : binop MulUnchecked (Int I128) (2 ^ 127) (2 ^ 128 - 1) ≡ None
unfolding Opened
mul_unchecked_signed = refl

over_tells : over over_op.Add (Int I32) (2 ^ 31 - 1) 1 ≡ (2 ^ 31, true)
unfolding Opened
over_tells = refl

over_fits : over over_op.Sub (Int U32) 5 3 ≡ (2, false)
unfolding Opened
over_fits = refl

not_of_bool : unary Not Boolean 1 ≡ 0
unfolding Opened
not_of_bool = refl

not_of_byte : unary Not (Int U8) 1 ≡ 254
unfolding Opened
not_of_byte = refl

neg_of_least : unary Neg (Int Isize) (2 ^ 63) ≡ 2 ^ 63
unfolding Opened
neg_of_least = refl

cast_extends_the_sign : cast (Int I8) (Int U16) 255 ≡ 65535
unfolding Opened
cast_extends_the_sign = refl

cast_truncates : cast (Int U128) (Int I8) (2 ^ 127 + 130) ≡ 130
unfolding Opened
cast_truncates = refl

cast_of_bool : cast Boolean (Int I64) 1 ≡ 1
unfolding Opened
cast_of_bool = refl

least_of_i128 : integer_of (Int I128) (2 ^ 127) ≡ negsuc (2 ^ 127 - 1)
unfolding Opened
least_of_i128 = refl
