-- How many bits a scalar has, and whether it has a sign.
use Rattle.std.specs.Prelude.{ℕ, ◌^◌, ◌-◌, Bool, true, false, if◌then◌else◌}
use Rattle.mir_syntax.specs.declared.types.IntTy.{IntTy}
use Rattle.mir_syntax.specs.declared.types.IntTy.TheVariants.{I8, I16, I32, I64, I128, Isize, U8, U16, U32, U64, U128, Usize}
use Rattle.mir_syntax.specs.declared.types.ScalarTy.{ScalarTy}
use Rattle.mir_syntax.specs.declared.types.ScalarTy.TheVariants.{Bool as Boolean, Int}

-- Rust Reference, numeric types; that `usize` and `isize` have 64 bits is this project's own
abbrev pub int_width : IntTy → ℕ
int_width I8 = 8
int_width I16 = 16
int_width I32 = 32
int_width I64 = 64
int_width I128 = 128
int_width Isize = 64
int_width U8 = 8
int_width U16 = 16
int_width U32 = 32
int_width U64 = 64
int_width U128 = 128
int_width Usize = 64

abbrev pub int_signed : IntTy → Bool
int_signed I8 = true
int_signed I16 = true
int_signed I32 = true
int_signed I64 = true
int_signed I128 = true
int_signed Isize = true
int_signed _ = false

-- this project's own: a `bool` is one bit wide
abbrev pub width_of : ScalarTy → ℕ
width_of Boolean = 1
width_of (Int ty) = int_width ty

abbrev pub is_signed : ScalarTy → Bool
is_signed Boolean = false
is_signed (Int ty) = int_signed ty

-- how many bit patterns a type has
abbrev pub patterns : ScalarTy → ℕ
patterns t = 2 ^ width_of t

-- how many of them stand for negative integers: half of a signed type's
abbrev pub negatives : ScalarTy → ℕ
negatives t = if is_signed t then 2 ^ (width_of t - 1) else 0
