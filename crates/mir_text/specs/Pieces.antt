-- What a text is made of, and which pieces may stand together.
use Rattle.std.specs.Prelude.{◌≡◌, ℕ, ◌+◌, ◌<◌, ◌^◌, Bool, true, false, ◌==◌, List, [], ◌∷◌, ◌++◌, None, codes}
use Rattle.std.specs.Char.{is_ascii_digit, is_ascii_alphabetic}
use Rattle.std.specs.Str.Parse.{digits_value}
use Rattle.mir_syntax.specs.declared.types.IntTy.{IntTy}
use Rattle.mir_text.specs.Bytes.{AreAll, begins, is_blank, is_in_line, is_name_byte, suffix_text, suffix_at}

-- the signs; the last four stand in `debug` lines alone
pub data Mark : Type 0 where
  open_paren : Mark
  close_paren : Mark
  open_brace : Mark
  close_brace : Mark
  open_bracket : Mark
  close_bracket : Mark
  comma : Mark
  semicolon : Mark
  colon : Mark
  colons : Mark
  dot : Mark
  ampersand : Mark
  star : Mark
  exclamation : Mark
  equals : Mark
  hash : Mark
  minus : Mark
  arrow : Mark
  fat_arrow : Mark
  less : Mark
  greater : Mark
  bar : Mark
  question : Mark

abbrev pub mark_text : Mark → List ℕ
mark_text open_paren = codes "("
mark_text close_paren = codes ")"
mark_text open_brace = codes "{"
mark_text close_brace = codes "}"
mark_text open_bracket = codes "["
mark_text close_bracket = codes "]"
mark_text comma = codes ","
mark_text semicolon = codes ";"
mark_text colon = codes ":"
mark_text colons = codes "::"
mark_text dot = codes "."
mark_text ampersand = codes "&"
mark_text star = codes "*"
mark_text exclamation = codes "!"
mark_text equals = codes "="
mark_text hash = codes "#"
mark_text minus = codes "-"
mark_text arrow = codes "->"
mark_text fat_arrow = codes "=>"
mark_text less = codes "<"
mark_text greater = codes ">"
mark_text bar = codes "|"
mark_text question = codes "?"

-- A text is cut into these. Digits and names carry their first byte apart, so none of them is empty.
pub data Piece : Type 0 where
  blank : ℕ → Piece
  line : Piece  -- a line feed
  comment : List ℕ → Piece  -- `//` and these bytes, to the end of the line
  local : ℕ → List ℕ → Piece  -- `_` and these digits
  number : ℕ → List ℕ → Piece
  typed : ℕ → List ℕ → IntTy → Piece  -- digits with a suffix
  text : List ℕ → Piece  -- these bytes between quotes
  word : ℕ → List ℕ → Piece  -- it begins with a letter: a block, a reserved word or a name
  under : ℕ → List ℕ → Piece  -- `_` and these bytes, the first of which is a letter or `_`: a name
  mark : Mark → Piece

-- the bytes of a piece
abbrev pub spelled : Piece → List ℕ
spelled (blank b) = b ∷ []
spelled line = 10 ∷ []
spelled (comment bs) = 47 ∷ 47 ∷ bs
spelled (local d ds) = 95 ∷ d ∷ ds
spelled (number d ds) = d ∷ ds
spelled (typed d ds t) = d ∷ ds ++ suffix_text t
spelled (text bs) = 34 ∷ bs ++ 34 ∷ []
spelled (word b bs) = b ∷ bs
spelled (under b bs) = 95 ∷ b ∷ bs
spelled (mark m) = mark_text m

-- whether the byte after this one is taken along: it is after a backslash that wasn't itself
abbrev pub taken_next : Bool → ℕ → Bool
taken_next true b = false
taken_next false b = b == 92

-- what may stand between quotes, where the byte before took the first one along or not
abbrev pub IsContent : Bool → List ℕ → Type 0
IsContent taken [] = taken ≡ false
IsContent taken (b ∷ bs) = ((b == 10) ≡ false) × (taken ≡ false → (b == 34) ≡ false) × IsContent (taken_next taken b) bs

-- the bytes of a piece are of its kind; a number is below 2^128
abbrev pub IsPiece : Piece → Type 0
IsPiece (blank b) = is_blank b ≡ true
IsPiece line = Unit {0}
IsPiece (comment bs) = AreAll is_in_line bs
IsPiece (local d ds) = AreAll is_ascii_digit (d ∷ ds)
IsPiece (number d ds) = AreAll is_ascii_digit (d ∷ ds) × (digits_value 10 (d ∷ ds) < 2 ^ 128)
IsPiece (typed d ds t) = AreAll is_ascii_digit (d ∷ ds) × (digits_value 10 (d ∷ ds) < 2 ^ 128)
IsPiece (text bs) = IsContent false bs
IsPiece (word b bs) = (is_ascii_alphabetic b ≡ true) × AreAll is_name_byte bs
IsPiece (under b bs) = (is_ascii_digit b ≡ false) × AreAll is_name_byte (b ∷ bs)
IsPiece (mark m) = Unit {0}

-- after `:`, `=` and `-` stands no byte that makes a longer sign of them
abbrev pub ends_mark : Mark → List ℕ → Type 0
ends_mark colon after = begins (λ b. b == 58) after ≡ false
ends_mark equals after = begins (λ b. b == 62) after ≡ false
ends_mark minus after = begins (λ b. b == 62) after ≡ false
ends_mark m after = Unit {0}

-- what stands after a piece makes no longer one of it
abbrev pub Ends : Piece → List ℕ → Type 0
Ends (comment bs) after = begins is_in_line after ≡ false
Ends (local d ds) after = begins is_ascii_digit after ≡ false
Ends (number d ds) after = (begins is_ascii_digit after ≡ false) × (suffix_at after ≡ None)
Ends (word b bs) after = begins is_name_byte after ≡ false
Ends (under b bs) after = begins is_name_byte after ≡ false
Ends (mark m) after = ends_mark m after
Ends p after = Unit {0}

-- the text of pieces
abbrev pub text_of : List Piece → List ℕ
text_of [] = []
text_of (p ∷ ps) = spelled p ++ text_of ps

-- pieces that stand together, before what is left
abbrev pub Stand : List Piece → List ℕ → Type 0
Stand [] left = Unit {0}
Stand (p ∷ ps) left = IsPiece p × Ends p (text_of ps ++ left) × Stand ps left

-- ---- lines

-- the line after a piece that begins at a line
abbrev pub line_after : ℕ → Piece → ℕ
line_after n line = n + 1
line_after n p = n

-- the line after pieces that begin at a line
abbrev pub line_past : ℕ → List Piece → ℕ
line_past n [] = n
line_past n (p ∷ ps) = line_past (line_after n p) ps

-- ---- neighbours in canonical text

-- a space, a line feed, a string or a sign
abbrev pub clear : Piece → Bool
clear (blank b) = b == 32
clear line = true
clear (text bs) = true
clear (mark m) = true
clear p = false

-- a space or a line feed
abbrev pub is_space : Piece → Bool
is_space (blank b) = b == 32
is_space line = true
is_space p = false

abbrev pub is_line : Piece → Bool
is_line line = true
is_line p = false

abbrev pub is_typed : Piece → Bool
is_typed (typed d ds t) = true
is_typed p = false

abbrev pub apart_mark : Mark → Piece → Bool
apart_mark colon q = is_space q
apart_mark equals q = is_space q
apart_mark minus q = is_typed q
apart_mark m q = true

-- the second piece may follow the first
abbrev pub apart : Piece → Piece → Bool
apart (comment bs) q = is_line q
apart (local d ds) q = clear q
apart (number d ds) q = clear q
apart (word b bs) q = clear q
apart (under b bs) q = clear q
apart (mark m) q = apart_mark m q
apart p q = true

-- each may follow the one before
abbrev pub Neighbours : List Piece → Type 0
Neighbours [] = Unit {0}
Neighbours (p ∷ []) = Unit {0}
Neighbours (p ∷ q ∷ ps) = (apart p q ≡ true) × Neighbours (q ∷ ps)

-- each is a piece
abbrev pub ArePieces : List Piece → Type 0
ArePieces [] = Unit {0}
ArePieces (p ∷ ps) = IsPiece p × ArePieces ps
