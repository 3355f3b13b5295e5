-- The bytes that pieces of a text are made of.
use Rattle.std.specs.Prelude.{ℕ, Bool, true, false, ◌≡◌, ◌==◌, ◌||◌, not, nat_eq, List, [], ◌∷◌, length, drop, Option, Some, None, codes, if◌then◌else◌}
use Rattle.std.specs.List.{starts_with}
use Rattle.std.specs.Char.{is_ascii_digit, is_ascii_alphabetic}
use Rattle.mir_syntax.specs.declared.types.IntTy.{IntTy}
use Rattle.mir_syntax.specs.declared.types.IntTy.TheVariants as i

-- a space, a tab or a carriage return
abbrev pub is_blank : ℕ → Bool
is_blank b = (b == 32) || (b == 9) || (b == 13)

-- no line feed
abbrev pub is_in_line : ℕ → Bool
is_in_line b = not (b == 10)

-- an ASCII letter, a digit or `_`
abbrev pub is_name_byte : ℕ → Bool
is_name_byte b = is_ascii_alphabetic b || is_ascii_digit b || (b == 95)

-- the first byte is such a one
abbrev pub begins : (ℕ → Bool) → List ℕ → Bool
begins p [] = false
begins p (b ∷ bs) = p b

-- all bytes are such ones
abbrev pub AreAll : (ℕ → Bool) → List ℕ → Type 0
AreAll p [] = Unit {0}
AreAll p (b ∷ bs) = (p b ≡ true) × AreAll p bs

-- what stands behind the digits of a constant: `_` and the name of its type
abbrev pub suffix_text : IntTy → List ℕ
suffix_text i.I8 = codes "_i8"
suffix_text i.I16 = codes "_i16"
suffix_text i.I32 = codes "_i32"
suffix_text i.I64 = codes "_i64"
suffix_text i.I128 = codes "_i128"
suffix_text i.Isize = codes "_isize"
suffix_text i.U8 = codes "_u8"
suffix_text i.U16 = codes "_u16"
suffix_text i.U32 = codes "_u32"
suffix_text i.U64 = codes "_u64"
suffix_text i.U128 = codes "_u128"
suffix_text i.Usize = codes "_usize"

abbrev pub suffixes : List (List ℕ × IntTy)
suffixes =
    (codes "_i8", i.I8) ∷ (codes "_i16", i.I16) ∷ (codes "_i32", i.I32) ∷ (codes "_i64", i.I64) ∷ (codes "_i128", i.I128) ∷ (codes "_isize", i.Isize) ∷
    (codes "_u8", i.U8) ∷ (codes "_u16", i.U16) ∷ (codes "_u32", i.U32) ∷ (codes "_u64", i.U64) ∷ (codes "_u128", i.U128) ∷ (codes "_usize", i.Usize) ∷ []

abbrev pub suffix_in : List (List ℕ × IntTy) → List ℕ → Option (IntTy × List ℕ)
suffix_in [] bs = None
suffix_in (s ∷ ss) bs = if starts_with nat_eq bs s.0 then Some (s.1, drop (length s.0) bs) else suffix_in ss bs

-- the suffix at the front, and what follows it
unfoldable pub suffix_at : List ℕ → Option (IntTy × List ℕ)
suffix_at bs = suffix_in suffixes bs
