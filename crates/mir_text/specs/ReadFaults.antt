-- With which code and line a text is refused that names no crate: S01 to S03 by its bytes, S04 to S09 by its symbols, S10 to S15 by its names.
use Rattle.std.specs.Prelude.{◌≡◌, ◌⊎◌, ℕ, ◌<◌, ◌≤◌, ◌^◌, Bool, true, false, List, [], ◌∷◌, ◌++◌, map, length, get_or, Some}
use Rattle.std.specs.Char.{is_ascii_digit}
use Rattle.std.specs.Str.Parse.{digits_value}
use Rattle.mir_syntax.specs.declared.types.IntTy.TheVariants as i
use Rattle.mir_text.specs.declared.symbol.Symbol.{Symbol}
use Rattle.mir_text.specs.declared.symbol.Symbol.TheVariants as s
use Rattle.mir_text.specs.Bytes.{AreAll, begins}
use Rattle.mir_text.specs.Pieces.{Piece, spelled, IsPiece, Ends, IsContent, text_of, Stand, line_past}
use Rattle.mir_text.specs.Symbols.{Lined, lined_symbols, symbols_of, symbol_in, line_in}
use Rattle.mir_text.specs.Numbers.{fits}
use Rattle.mir_text.specs.GrammarItems.{FileRule, file_put}
use Rattle.mir_text.specs.Nesting.{FileGood}
use Rattle.mir_text.specs.NameFaults.{first_fault}
use Rattle.mir_text.specs.Reads.{faults_in}
use Rattle.mir_text.specs.Spans.{spans_of, is_open, begins_part}

-- ---- bytes: S01, S02, S03

-- a byte that begins neither a number nor a string, and no piece stands there
pub record NoPiece (left : List ℕ) : Type 0 where
  pub byte : ℕ
  pub past : List ℕ
  pub front : left ≡ byte ∷ past
  pub no_digit : is_ascii_digit byte ≡ false
  pub no_quote : byte ≡ 34 → ⊥
  pub no_piece : (p : Piece) (rest : List ℕ) → IsPiece p → Ends p rest → left ≡ spelled p ++ rest → ⊥

-- a number of 2^128 or more
pub record LargeNumber (left : List ℕ) : Type 0 where
  pub digit : ℕ
  pub digits : List ℕ
  pub rest : List ℕ
  pub front : left ≡ digit ∷ digits ++ rest
  pub are_digits : AreAll is_ascii_digit (digit ∷ digits)
  pub whole : begins is_ascii_digit rest ≡ false
  pub large : 2 ^ 128 ≤ digits_value 10 (digit ∷ digits)

-- a string that isn't closed in its line
pub record OpenString (left : List ℕ) : Type 0 where
  pub past : List ℕ
  pub front : left ≡ 34 ∷ past
  pub open_ended : (content rest : List ℕ) → IsContent false content → past ≡ content ++ 34 ∷ rest → ⊥

abbrev pub IsByteFault : List ℕ → ℕ → Type 0
IsByteFault left code = ((code ≡ 1) × NoPiece left) ⊎ (((code ≡ 2) × LargeNumber left) ⊎ ((code ≡ 3) × OpenString left))

-- ---- symbols with which a reading goes on

-- symbols with which a file begins
pub record Viable (front : List Symbol) : Type 0 where
  pub file : FileRule
  pub more : List Symbol
  pub derives : file_put file [] ≡ front ++ more

-- a number that is too large, or has no suffix, stands for one that isn't so
abbrev pub StandsFor : Symbol → Symbol → Type 0
StandsFor s.LargeLocal y = y ≡ s.Local 0
StandsFor s.LargeBlock y = y ≡ s.Block 0
StandsFor (s.Number n) y = y ≡ s.Typed i.U8 0
StandsFor x y = ⊥

-- some reading goes on with a symbol, or with what it stands for
abbrev pub GoesOn : List Symbol → Symbol → Type 0
GoesOn before x = Viable (before ++ x ∷ []) ⊎ ((y : Symbol) × StandsFor x y × Viable (before ++ y ∷ []))

-- in a `debug` line a left-out word may stand
abbrev pub InDebug : List Symbol → Type 0
InDebug before = Viable (before ++ s.LeftOut ∷ [])

-- ---- S04, S06, S07, S08, S09

-- a symbol other than a left-out word, with which no reading goes on
abbrev pub NoReading : List Symbol → Symbol → Type 0
NoReading before x = (x ≡ s.LeftOut → ⊥) × (GoesOn before x → ⊥)

-- a place may begin: `(*` may stand there
abbrev pub PlaceHere : List Symbol → Type 0
PlaceHere before = Viable (before ++ s.Open ∷ s.Star ∷ [])

-- what a symbol may open: a type, of which `bool` is the least; a place, of which `_0` is; or a scope
abbrev pub Opens : List Symbol → Symbol → Symbol → Type 0
Opens before (s.Int t) y = y ≡ s.Bool
Opens before s.Bool y = y ≡ s.Bool
Opens before s.Ampersand y = y ≡ s.Bool
Opens before (s.Name n) y = y ≡ s.Bool
Opens before s.Open y = (y ≡ s.Bool) ⊎ (y ≡ s.Local 0)
Opens before (s.Local x) y = (y ≡ s.Local 0) × PlaceHere before
Opens before s.LargeLocal y = (y ≡ s.Local 0) × PlaceHere before
Opens before s.Scope y = y ≡ s.Scope
Opens before x y = ⊥

-- A symbol opens a type, a place or a scope in more than 64: even the least one there is in no good file.
pub record TooDeep (before : List Symbol) (x : Symbol) : Type 0 where
  pub goes_on : GoesOn before x
  pub least : Symbol
  pub opens : Opens before x least
  pub viable : Viable (before ++ least ∷ [])
  pub none_good : (file : FileRule) (more : List Symbol) → FileGood file → file_put file [] ≡ before ++ least ∷ more → ⊥

-- a left-out word outside a `debug` line
abbrev pub IsLeftOut : List Symbol → Symbol → Type 0
IsLeftOut before x = (x ≡ s.LeftOut) × (InDebug before → ⊥)

abbrev pub ends_with : (Symbol → Bool) → List Symbol → Bool
ends_with p [] = false
ends_with p (x ∷ []) = p x
ends_with p (x ∷ y ∷ ys) = ends_with p (y ∷ ys)

abbrev pub is_minus : Symbol → Bool
is_minus s.Minus = true
is_minus x = false

-- a constant without a suffix, or one that doesn't fit its type
abbrev pub UnfitHere : List Symbol → Symbol → Type 0
UnfitHere before (s.Number n) = (Viable (before ++ s.Number n ∷ []) → ⊥) × Viable (before ++ s.Typed i.U8 0 ∷ [])
UnfitHere before (s.Typed t n) = Viable (before ++ s.Typed t n ∷ []) × (fits (ends_with is_minus before) n t ≡ false)
UnfitHere before x = ⊥

abbrev pub Unfit : List Symbol → Symbol → Type 0
Unfit before x = (InDebug before → ⊥) × UnfitHere before x

-- behind these a number is that of a field, a scope or a set variant
abbrev pub is_before_number : Symbol → Bool
is_before_number s.Dot = true
is_before_number s.Scope = true
is_before_number s.Equals = true
is_before_number x = false

-- the number of a local, a block, a field, a scope or a set variant is above 4294967295
abbrev pub TooLarge : List Symbol → Symbol → Type 0
TooLarge before s.LargeLocal = GoesOn before s.LargeLocal
TooLarge before s.LargeBlock = GoesOn before s.LargeBlock
TooLarge before (s.Number n) =
    (4294967295 < n) × (InDebug before → ⊥) × Viable (before ++ s.Number n ∷ []) × (ends_with is_before_number before ≡ true)
TooLarge before x = ⊥

abbrev pub Breaks : List Symbol → Symbol → ℕ → Type 0
Breaks before x code =
    ((code ≡ 4) × NoReading before x) ⊎ (((code ≡ 6) × TooDeep before x) ⊎ (((code ≡ 7) × IsLeftOut before x) ⊎
    (((code ≡ 8) × Unfit before x) ⊎ ((code ≡ 9) × TooLarge before x))))

-- the least code with which a symbol is refused
abbrev pub RefusedWith : List Symbol → Symbol → ℕ → Type 0
RefusedWith before x code = Breaks before x code × ((less : ℕ) → less < code → Breaks before x less → ⊥)

-- no symbol is refused
abbrev pub NoneRefused : List Symbol → Type 0
NoneRefused symbols = (before : List Symbol) (x : Symbol) (after : List Symbol) (code : ℕ) → symbols ≡ before ++ x ∷ after → Breaks before x code → ⊥

-- ---- the line of a refused symbol

-- what a symbol is read as: itself, what it stands for, or anything in place of a left-out word
abbrev pub ReadAs : Symbol → Symbol → Type 0
ReadAs x y = (y ≡ x) ⊎ (StandsFor x y ⊎ (x ≡ s.LeftOut))

pub record Reading (before : List Symbol) (x : Symbol) : Type 0 where
  pub other : Symbol
  pub read_as : ReadAs x other
  pub file : FileRule
  pub more : List Symbol
  pub derives : file_put file [] ≡ before ++ other ∷ more

-- in each reading a part that begins at a place holds the symbol
abbrev pub OpenAt : List Symbol → Symbol → ℕ → Type 0
OpenAt before x start = (r : Reading before x) → is_open (spans_of r.file) start (length before) ≡ true

-- the part that holds the symbol and begins last
abbrev pub Innermost : List Symbol → Symbol → ℕ → Type 0
Innermost before x start = OpenAt before x start × ((other : ℕ) → OpenAt before x other → other ≤ start)

-- in some reading an item, an argument, a statement or a terminator begins with the symbol
abbrev pub MayBegin : List Symbol → Symbol → Type 0
MayBegin before x = (r : Reading before x) × (begins_part (spans_of r.file) (length before) ≡ true)

-- The line of the part in which a symbol stands, the symbols up to it having these lines. A left-out word with which a part may begin is its
-- first symbol.
abbrev pub PartLine : List Symbol → Symbol → List ℕ → ℕ → Type 0
PartLine before x lines n =
    (MayBegin before x × (n ≡ get_or lines (length before) 0))
    ⊎ ((MayBegin before x → ⊥) × ((start : ℕ) × Innermost before x start × (n ≡ get_or lines start 0)))

-- S04 has the symbol's own line
abbrev pub RefusedLine : List Symbol → Symbol → List ℕ → ℕ → ℕ → Type 0
RefusedLine before x lines code n =
    ((code ≡ 4) × (n ≡ get_or lines (length before) 0)) ⊎ ((code ≡ 4 → ⊥) × PartLine before x lines n)

-- ---- a whole text

-- bytes are cut into pieces, as far as pieces stand there
pub record IsCut (bytes : List ℕ) (pieces : List Piece) (left : List ℕ) : Type 0 where
  pub whole : bytes ≡ text_of pieces ++ left
  pub stand : Stand pieces left

-- the first symbol that is refused
pub record SymbolFault (bytes : List ℕ) (code line : ℕ) : Type 0 where
  pub pieces : List Piece
  pub left : List ℕ
  pub cut : IsCut bytes pieces left
  pub before : List Lined
  pub at : Lined
  pub after : List Lined
  pub symbols : lined_symbols pieces ≡ before ++ at ∷ after
  pub first : NoneRefused (map symbol_in before)
  pub refused : RefusedWith (map symbol_in before) (symbol_in at) code
  pub on_line : RefusedLine (map symbol_in before) (symbol_in at) (map line_in (before ++ at ∷ [])) code line

-- a byte where no piece stands, and no symbol before it is refused
pub record ByteFault (bytes : List ℕ) (code line : ℕ) : Type 0 where
  pub pieces : List Piece
  pub left : List ℕ
  pub cut : IsCut bytes pieces left
  pub first : NoneRefused (symbols_of pieces)
  pub fault : IsByteFault left code
  pub on_line : line ≡ line_past 1 pieces

-- S05: the text ends inside an item
pub record EndFault (bytes : List ℕ) (code line : ℕ) : Type 0 where
  pub pieces : List Piece
  pub cut : IsCut bytes pieces []
  pub first : NoneRefused (symbols_of pieces)
  pub no_file : (file : FileRule) → symbols_of pieces ≡ file_put file [] → ⊥
  pub code_is : code ≡ 5
  pub on_line : line ≡ line_past 1 pieces

-- S10 to S15: a good file whose names have a fault
pub record NameFault (bytes : List ℕ) (code line : ℕ) : Type 0 where
  pub pieces : List Piece
  pub cut : IsCut bytes pieces []
  pub file : FileRule
  pub derives : symbols_of pieces ≡ file_put file []
  pub good : FileGood file
  pub first : first_fault (faults_in pieces file) ≡ Some (line, code)

-- bytes are refused with a code and a line
abbrev pub IsReadFault : List ℕ → ℕ → ℕ → Type 0
IsReadFault bytes code line = SymbolFault bytes code line ⊎ (ByteFault bytes code line ⊎ (EndFault bytes code line ⊎ NameFault bytes code line))
