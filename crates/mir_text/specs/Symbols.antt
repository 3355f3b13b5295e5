-- The symbols of pieces, each with its line.
use Rattle.std.specs.Prelude.{ℕ, ◌^◌, Bool, ◌==◌, ◌&&◌, nat_lt, List, [], ◌∷◌, ◌++◌, map, length, get_or, Option, Some, None, codes, if◌then◌else◌}
use Rattle.std.specs.List.{prefix_len}
use Rattle.std.specs.Char.{is_ascii_digit}
use Rattle.std.specs.Str.Parse.{digits_value}
use Rattle.mir_syntax.specs.declared.types.IntTy.TheVariants as i
use Rattle.mir_syntax.specs.declared.body.BinOp.TheVariants as bin
use Rattle.mir_syntax.specs.declared.body.OverOp.TheVariants as over
use Rattle.mir_syntax.specs.declared.body.UnOp.TheVariants as un
use Rattle.mir_text.specs.declared.symbol.Symbol.{Symbol}
use Rattle.mir_text.specs.declared.symbol.Symbol.TheVariants as s
use Rattle.mir_text.specs.Bytes.{begins}
use Rattle.mir_text.specs.Pieces.{Mark, open_paren, close_paren, open_brace, close_brace, open_bracket, close_bracket, comma, semicolon, colon, colons, dot, ampersand, star, exclamation, equals, hash, minus, arrow, fat_arrow, less, greater, bar, question, Piece, blank, line, comment, local, number, typed, text, word, under, mark, line_after}
use Rattle.mir_text.specs.Words.{place_in, word_place}

-- ---- reserved words and signs

-- the symbols of the used reserved words, in the order of the words
abbrev pub used_symbols : List Symbol
used_symbols =
    s.Int i.I8 ∷ s.Int i.I16 ∷ s.Int i.I32 ∷ s.Int i.I64 ∷ s.Int i.I128 ∷ s.Int i.Isize ∷
    s.Int i.U8 ∷ s.Int i.U16 ∷ s.Int i.U32 ∷ s.Int i.U64 ∷ s.Int i.U128 ∷ s.Int i.Usize ∷
    s.Bool ∷ s.True ∷ s.False ∷ s.Fn ∷ s.Struct ∷ s.Enum ∷
    s.Extern ∷ s.Drop ∷ s.Let ∷ s.Mut ∷ s.Debug ∷ s.Scope ∷
    s.Copy ∷ s.Move ∷ s.Const ∷ s.As ∷ s.Goto ∷ s.SwitchInt ∷
    s.Return ∷ s.Unreachable ∷ s.Assert ∷ s.Otherwise ∷ s.Unwind ∷ s.Continue ∷
    s.Nop ∷ s.StorageLive ∷ s.StorageDead ∷ s.Discriminant ∷ s.Binary bin.Add ∷ s.Binary bin.Sub ∷
    s.Binary bin.Mul ∷ s.Binary bin.Div ∷ s.Binary bin.Rem ∷ s.Binary bin.BitXor ∷ s.Binary bin.BitAnd ∷ s.Binary bin.BitOr ∷
    s.Binary bin.Shl ∷ s.Binary bin.Shr ∷ s.Binary bin.Eq ∷ s.Binary bin.Ne ∷ s.Binary bin.Lt ∷ s.Binary bin.Le ∷
    s.Binary bin.Gt ∷ s.Binary bin.Ge ∷ s.Over over.Add ∷ s.Over over.Sub ∷ s.Over over.Mul ∷ s.Unary un.Not ∷
    s.Unary un.Neg ∷ s.Binary bin.AddUnchecked ∷ s.Binary bin.SubUnchecked ∷ s.Binary bin.MulUnchecked ∷ []

-- the symbol of the reserved word at a place; behind the used ones stand those that are left out
abbrev pub word_symbol : ℕ → Symbol
word_symbol k = get_or used_symbols k s.LeftOut

abbrev pub mark_symbol : Mark → Symbol
mark_symbol open_paren = s.Open
mark_symbol close_paren = s.Close
mark_symbol open_brace = s.OpenBrace
mark_symbol close_brace = s.CloseBrace
mark_symbol open_bracket = s.OpenBracket
mark_symbol close_bracket = s.CloseBracket
mark_symbol comma = s.Comma
mark_symbol semicolon = s.Semicolon
mark_symbol colon = s.Colon
mark_symbol colons = s.Colons
mark_symbol dot = s.Dot
mark_symbol ampersand = s.Ampersand
mark_symbol star = s.Star
mark_symbol exclamation = s.Exclamation
mark_symbol equals = s.Equals
mark_symbol hash = s.Hash
mark_symbol minus = s.Minus
mark_symbol arrow = s.Arrow
mark_symbol fat_arrow = s.FatArrow
mark_symbol less = s.Less
mark_symbol greater = s.Greater
mark_symbol bar = s.Bar
mark_symbol question = s.Question

-- ---- names and strings by their numbers

-- the names that the grammar looks for: they have the first numbers
abbrev pub grammar_names : List (List ℕ)
grammar_names =
    codes "inline" ∷ codes "always" ∷ codes "never" ∷ codes "inlined" ∷ codes "success" ∷ codes "MIN" ∷ codes "MAX" ∷ codes "IntToInt" ∷ []

abbrev pub inline_name : Symbol
inline_name = s.Name 0

abbrev pub always_name : Symbol
always_name = s.Name 1

abbrev pub never_name : Symbol
never_name = s.Name 2

abbrev pub inlined_name : Symbol
inlined_name = s.Name 3

abbrev pub success_name : Symbol
success_name = s.Name 4

abbrev pub min_name : Symbol
min_name = s.Name 5

abbrev pub max_name : Symbol
max_name = s.Name 6

abbrev pub int_to_int_name : Symbol
int_to_int_name = s.Name 7

abbrev pub place_or : ℕ → Option ℕ → ℕ
place_or n None = n
place_or n (Some k) = k

-- the number of a byte string: its place among those seen, or else the next one
abbrev pub number_in : List (List ℕ) → List ℕ → ℕ
number_in seen bytes = place_or (length seen) (place_in seen bytes)

abbrev pub seen_with : List (List ℕ) → List ℕ → Option ℕ → List (List ℕ)
seen_with seen bytes None = seen ++ bytes ∷ []
seen_with seen bytes (Some k) = seen

-- the byte strings seen after this one
abbrev pub noted : List (List ℕ) → List ℕ → List (List ℕ)
noted seen bytes = seen_with seen bytes (place_in seen bytes)

-- ---- what a piece is to the grammar

-- nothing (blank text), a symbol, a name, or a string
pub data Token : Type 0 where
  nothing : Token
  symbol : Symbol → Token
  name : List ℕ → Token
  string : List ℕ → Token

-- the symbol of a number below 2^32, or the one for larger numbers
abbrev pub numbered : (ℕ → Symbol) → Symbol → ℕ → Symbol
numbered small large n = if nat_lt n (2 ^ 32) then small n else large

abbrev pub are_digits : List ℕ → Bool
are_digits ds = begins is_ascii_digit ds && (prefix_len is_ascii_digit ds == length ds)

-- the digits of a block: those behind `bb`, where nothing else follows
unfoldable pub block_digits : List ℕ → Option (List ℕ)
block_digits [] = None
block_digits (a ∷ []) = None
block_digits (a ∷ b ∷ ds) = if (a == 98) && ((b == 98) && are_digits ds) then Some ds else None

abbrev pub reserved_or_name : List ℕ → Option ℕ → Token
reserved_or_name bytes None = name bytes
reserved_or_name bytes (Some k) = symbol (word_symbol k)

abbrev pub block_or_word : List ℕ → Option (List ℕ) → Token
block_or_word bytes (Some ds) = symbol (numbered s.Block s.LargeBlock (digits_value 10 ds))
block_or_word bytes None = reserved_or_name bytes (word_place bytes)

-- letters, digits and `_` together: a block, a reserved word, or else a name
unfoldable pub word_token : List ℕ → Token
word_token bytes = block_or_word bytes (block_digits bytes)

abbrev pub token_of : Piece → Token
token_of (blank b) = nothing
token_of line = nothing
token_of (comment bs) = nothing
token_of (local d ds) = symbol (numbered s.Local s.LargeLocal (digits_value 10 (d ∷ ds)))
token_of (number d ds) = symbol (s.Number (digits_value 10 (d ∷ ds)))
token_of (typed d ds t) = symbol (s.Typed t (digits_value 10 (d ∷ ds)))
token_of (text bs) = string bs
token_of (word b bs) = word_token (b ∷ bs)
token_of (under b bs) = word_token (95 ∷ b ∷ bs)
token_of (mark m) = symbol (mark_symbol m)

-- ---- the symbols of pieces

-- a symbol and the line on which it stands
abbrev pub Lined : Type 0
Lined = Symbol × ℕ

-- the byte strings seen after a token
abbrev pub seen_after : List (List ℕ) → Token → List (List ℕ)
seen_after seen nothing = seen
seen_after seen (symbol x) = seen
seen_after seen (name bytes) = noted seen bytes
seen_after seen (string bytes) = noted seen bytes

-- the symbol of a token on a line, before those that follow
abbrev pub put_token : List (List ℕ) → ℕ → Token → List Lined → List Lined
put_token seen n nothing rest = rest
put_token seen n (symbol x) rest = (x, n) ∷ rest
put_token seen n (name bytes) rest = (s.Name (number_in seen bytes), n) ∷ rest
put_token seen n (string bytes) rest = (s.Text (number_in seen bytes), n) ∷ rest

-- the symbols of pieces that begin at a line, after byte strings were seen
abbrev pub symbols_from : List (List ℕ) → ℕ → List Piece → List Lined
symbols_from seen n [] = []
symbols_from seen n (p ∷ ps) = put_token seen n (token_of p) (symbols_from (seen_after seen (token_of p)) (line_after n p) ps)

-- the byte strings seen in pieces, after others
abbrev pub strings_from : List (List ℕ) → List Piece → List (List ℕ)
strings_from seen [] = seen
strings_from seen (p ∷ ps) = strings_from (seen_after seen (token_of p)) ps

-- the symbols of the pieces of a text, with their lines
abbrev pub lined_symbols : List Piece → List Lined
lined_symbols ps = symbols_from grammar_names 1 ps

abbrev pub symbol_in : Lined → Symbol
symbol_in x = x.0

abbrev pub line_in : Lined → ℕ
line_in x = x.1

-- the symbols of the pieces of a text
abbrev pub symbols_of : List Piece → List Symbol
symbols_of ps = map symbol_in (lined_symbols ps)

-- the byte strings of a text: a name's or a string's number is its place here
abbrev pub strings_of : List Piece → List (List ℕ)
strings_of ps = strings_from grammar_names ps
