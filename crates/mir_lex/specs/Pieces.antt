-- The tokens of pieces, and where a text can't be cut on.
use Rattle.std.specs.Prelude.{◌≡◌, ℕ, ◌+◌, ◌==◌, List, [], ◌∷◌, ◌++◌, length, Option, Some, None, if◌then◌else◌}
use Rattle.std.specs.Char.{is_ascii_digit}
use Rattle.std.specs.Str.Parse.{digits_value}
use Rattle.mir_text.specs.Pieces.{Mark, open_paren, close_paren, open_brace, close_brace, open_bracket, close_bracket, comma, semicolon, colon, colons, dot, ampersand, star, exclamation, equals, hash, minus, arrow, fat_arrow, less, greater, bar, question, Piece, blank, line, comment, local, number, typed, text, word, under, mark, spelled, IsPiece, Ends, text_of, Stand, line_after, line_past}
use Rattle.mir_lex.specs.declared.kind.Kind.TheVariants as k
use Rattle.mir_lex.specs.declared.kind.Token.{Token}
use Rattle.mir_lex.specs.declared.kind.LexFault.{LexFault}
use Rattle.mir_lex.specs.declared.kind.Lexed.{Lexed}
use Rattle.mir_lex.specs.declared.scan.Found.{Found}
use Rattle.mir_lex.specs.declared.scan.Found.TheVariants as f
use Rattle.mir_lex.specs.Tokens.{local_of, kind_of}

-- the place of a sign in the list of signs
abbrev pub mark_place : Mark → ℕ
mark_place open_paren = 0
mark_place close_paren = 1
mark_place open_brace = 2
mark_place close_brace = 3
mark_place open_bracket = 4
mark_place close_bracket = 5
mark_place comma = 6
mark_place semicolon = 7
mark_place colon = 8
mark_place colons = 9
mark_place dot = 10
mark_place ampersand = 11
mark_place star = 12
mark_place exclamation = 13
mark_place equals = 14
mark_place hash = 15
mark_place minus = 16
mark_place arrow = 17
mark_place fat_arrow = 18
mark_place less = 19
mark_place greater = 20
mark_place bar = 21
mark_place question = 22

-- what a piece is found as
abbrev pub found_of : Piece → Found
found_of (blank b) = f.Blank
found_of line = f.Line
found_of (comment bs) = f.Comment
found_of (local d ds) = f.Token (local_of (d ∷ ds))
found_of (number d ds) = f.Token (k.Number (digits_value 10 (d ∷ ds)) None)
found_of (typed d ds t) = f.Token (k.Number (digits_value 10 (d ∷ ds)) (Some t))
found_of (text bs) = f.Token k.Text
found_of (word b bs) = f.Token (kind_of (b ∷ bs))
found_of (under b bs) = f.Token (kind_of (95 ∷ b ∷ bs))
found_of (mark m) = f.Token (k.Sign (mark_place m))

-- the token of what was found on a line at a place, with its bytes, before others
abbrev pub adds_token : ℕ → ℕ → Found → List ℕ → List Token → List Token
adds_token n at f.Blank bs ts = ts
adds_token n at f.Line bs ts = ts
adds_token n at f.Comment bs ts = ts
adds_token n at (f.Token kind) bs ts = record { kind = kind; at = at; len = length bs; line = n } ∷ ts

-- the tokens of pieces that begin at a line and a place
abbrev pub tokens_of : ℕ → ℕ → List Piece → List Token
tokens_of n at [] = []
tokens_of n at (p ∷ ps) = adds_token n at (found_of p) (spelled p) (tokens_of (line_after n p) (at + length (spelled p)) ps)

-- a piece stands at the front of a text, before the rest
pub record Front (bs : List ℕ) (p : Piece) (rest : List ℕ) : Type 0 where
  pub whole : bs ≡ spelled p ++ rest
  pub is : IsPiece p
  pub ends : Ends p rest

-- what was found at the front of a text is a piece that stands there
pub record IsFound (bs : List ℕ) (fd : Found) (rest : List ℕ) : Type 0 where
  pub piece : Piece
  pub whole : bs ≡ spelled piece ++ rest
  pub is : IsPiece piece
  pub ends : Ends piece rest
  pub found : found_of piece ≡ fd

-- the code of a fault, by the first byte of what it is: a number, a string, or nothing at all
abbrev pub fault_code : ℕ → ℕ
fault_code b = if is_ascii_digit b then 2 else (if b == 34 then 3 else 1)

-- no piece stands at the front of a text
abbrev pub FaultAt : List ℕ → ℕ → Type 0
FaultAt [] code = ⊥
FaultAt (b ∷ bs) code = ((p : Piece) (rest : List ℕ) → Front (b ∷ bs) p rest → ⊥) × (code ≡ fault_code b)

-- what is left is nothing, or no piece stands at its front
abbrev pub EndsAt : ℕ → List ℕ → Option LexFault → Type 0
EndsAt n [] None = Unit {0}
EndsAt n [] (Some fault) = ⊥
EndsAt n (b ∷ bs) None = ⊥
EndsAt n (b ∷ bs) (Some fault) = FaultAt (b ∷ bs) fault.code × (fault.line ≡ n)

-- a text is cut into tokens, up to its end or the first fault
pub record Lexes (bs : List ℕ) (found : Lexed) : Type 0 where
  pub pieces : List Piece
  pub left : List ℕ
  pub whole : bs ≡ text_of pieces ++ left
  pub stand : Stand pieces left
  pub tokens : found.tokens ≡ tokens_of 1 0 pieces
  pub fault : EndsAt (line_past 1 pieces) left found.fault
