-- The symbols of pieces where the byte strings of the whole text are known beforehand: a name's or a string's number is its place among them,
-- wherever it stands in the text.
use Rattle.std.specs.Prelude.{◌≡◌, ◌⊎◌, List, [], ◌∷◌, ℕ}
use Rattle.mir_text.specs.declared.symbol.Symbol.{Symbol}
use Rattle.mir_text.specs.declared.symbol.Symbol.TheVariants as s
use Rattle.mir_text.specs.Pieces.{Piece}
use Rattle.mir_text.specs.Symbols.{number_in, Token, nothing, symbol, name, string, token_of}
use Rattle.mir_text.specs.Names.{Strings}

-- the symbol of a token, before those that follow
abbrev pub put_known : Strings → Token → List Symbol → List Symbol
put_known strings nothing rest = rest
put_known strings (symbol x) rest = x ∷ rest
put_known strings (name bytes) rest = s.Name (number_in strings bytes) ∷ rest
put_known strings (string bytes) rest = s.Text (number_in strings bytes) ∷ rest

abbrev pub known_symbols : Strings → List Piece → List Symbol
known_symbols strings [] = []
known_symbols strings (p ∷ ps) = put_known strings (token_of p) (known_symbols strings ps)

-- the byte string that a token carries, a name or a string
abbrev pub Carries : Token → List ℕ → Type 0
Carries (name bs) bytes = bs ≡ bytes
Carries (string bs) bytes = bs ≡ bytes
Carries x bytes = ⊥

-- a name or a string stands among pieces
abbrev pub Holds : List Piece → List ℕ → Type 0
Holds [] bytes = ⊥
Holds (p ∷ ps) bytes = Carries (token_of p) bytes ⊎ Holds ps bytes
