-- The numbers of integer types: the bits that hold them, and how they are written.
use Rattle.std.specs.Prelude.{ℕ, ◌-◌, ◌^◌, Bool, true, false, ◌==◌, ◌&&◌, not, nat_lt, if◌then◌else◌}
use Rattle.mir_syntax.specs.declared.types.IntTy.{IntTy}
use Rattle.mir_syntax.specs.declared.types.IntTy.TheVariants as i

-- how many bits an integer type has
abbrev pub width : IntTy → ℕ
width i.I8 = 8
width i.I16 = 16
width i.I32 = 32
width i.I64 = 64
width i.I128 = 128
width i.Isize = 64
width i.U8 = 8
width i.U16 = 16
width i.U32 = 32
width i.U64 = 64
width i.U128 = 128
width i.Usize = 64

abbrev pub is_signed : IntTy → Bool
is_signed i.I8 = true
is_signed i.I16 = true
is_signed i.I32 = true
is_signed i.I64 = true
is_signed i.I128 = true
is_signed i.Isize = true
is_signed t = false

-- half of the numbers that so many bits hold
abbrev pub half : IntTy → ℕ
half t = 2 ^ (width t - 1)

-- how many numbers a type has
abbrev pub count : IntTy → ℕ
count t = 2 ^ width t

-- ---- bits as a number

-- bits stand for a negative number
unfoldable pub is_negative : IntTy → ℕ → Bool
is_negative t bits = is_signed t && not (nat_lt bits (half t))

-- the size of the number, without its sign
unfoldable pub size_of : IntTy → ℕ → ℕ
size_of t bits = if is_negative t bits then count t - bits else bits

-- ---- a number as bits

-- the greatest size that a number with a sign may have
abbrev pub limit : Bool → IntTy → ℕ
limit true t = if is_signed t then half t else 0
limit false t = if is_signed t then half t - 1 else count t - 1

-- a number, negative or not, is one of the type; minus zero is
abbrev pub fits : Bool → ℕ → IntTy → Bool
fits negative n t = not (nat_lt (limit negative t) n)

-- the bits of a number that fits
abbrev pub bits_of : Bool → ℕ → IntTy → ℕ
bits_of true n t = if n == 0 then 0 else count t - n
bits_of false n t = n

-- the bits of the least and of the greatest number of a type
abbrev pub least : IntTy → ℕ
least t = if is_signed t then half t else 0

abbrev pub greatest : IntTy → ℕ
greatest t = limit false t
