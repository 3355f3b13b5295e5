-- The reserved words, each at its place.
use Rattle.std.specs.Prelude.{ℕ, suc, List, [], ◌∷◌, ◌++◌, Option, Some, None, codes, if◌then◌else◌}
use Rattle.std.specs.Str.{bytes_eq}

-- the reserved words that the text uses
abbrev pub used_words : List (List ℕ)
used_words =
    codes "i8" ∷ codes "i16" ∷ codes "i32" ∷ codes "i64" ∷ codes "i128" ∷ codes "isize" ∷
    codes "u8" ∷ codes "u16" ∷ codes "u32" ∷ codes "u64" ∷ codes "u128" ∷ codes "usize" ∷
    codes "bool" ∷ codes "true" ∷ codes "false" ∷ codes "fn" ∷ codes "struct" ∷ codes "enum" ∷
    codes "extern" ∷ codes "drop" ∷ codes "let" ∷ codes "mut" ∷ codes "debug" ∷ codes "scope" ∷
    codes "copy" ∷ codes "move" ∷ codes "const" ∷ codes "as" ∷ codes "goto" ∷ codes "switchInt" ∷
    codes "return" ∷ codes "unreachable" ∷ codes "assert" ∷ codes "otherwise" ∷ codes "unwind" ∷ codes "continue" ∷
    codes "nop" ∷ codes "StorageLive" ∷ codes "StorageDead" ∷ codes "discriminant" ∷ codes "Add" ∷ codes "Sub" ∷
    codes "Mul" ∷ codes "Div" ∷ codes "Rem" ∷ codes "BitXor" ∷ codes "BitAnd" ∷ codes "BitOr" ∷
    codes "Shl" ∷ codes "Shr" ∷ codes "Eq" ∷ codes "Ne" ∷ codes "Lt" ∷ codes "Le" ∷
    codes "Gt" ∷ codes "Ge" ∷ codes "AddWithOverflow" ∷ codes "SubWithOverflow" ∷ codes "MulWithOverflow" ∷ codes "Not" ∷
    codes "Neg" ∷ codes "AddUnchecked" ∷ codes "SubUnchecked" ∷ codes "MulUnchecked" ∷ []

-- the reserved words that the text leaves out: they stand in `debug` lines alone
abbrev pub left_out_words : List (List ℕ)
left_out_words =
    codes "f16" ∷ codes "f32" ∷ codes "f64" ∷ codes "f128" ∷ codes "char" ∷ codes "str" ∷
    codes "dyn" ∷ codes "impl" ∷ codes "static" ∷ codes "union" ∷ codes "promoted" ∷ codes "FakeRead" ∷
    codes "PlaceMention" ∷ codes "AscribeUserType" ∷ codes "Retag" ∷ codes "Coverage" ∷ codes "ConstEvalCounter" ∷ codes "Deinit" ∷
    codes "falseEdge" ∷ codes "falseUnwind" ∷ codes "resume" ∷ codes "terminate" ∷ codes "yield" ∷ codes "cleanup" ∷
    codes "deref_copy" ∷ codes "Len" ∷ codes "Offset" ∷ codes "Cmp" ∷ codes "PtrMetadata" ∷ codes "ShlUnchecked" ∷
    codes "ShrUnchecked" ∷ []

-- all reserved words: the used ones, and then the left-out ones
abbrev pub words : List (List ℕ)
words = used_words ++ left_out_words

-- the place of a text in a list of texts, counted on from a number
abbrev pub place_from : ℕ → List (List ℕ) → List ℕ → Option ℕ
place_from k [] text = None
place_from k (w ∷ ws) text = if bytes_eq w text then Some k else place_from (suc k) ws text

-- the place of a text in a list of texts
abbrev pub place_in : List (List ℕ) → List ℕ → Option ℕ
place_in texts text = place_from 0 texts text

-- the place of a reserved word
unfoldable pub word_place : List ℕ → Option ℕ
word_place text = place_from 0 words text
