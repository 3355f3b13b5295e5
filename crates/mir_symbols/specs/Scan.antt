-- The symbols of a text as they are found from piece to piece. No public promise of a whole text rests on these: `Found.antt` speaks of pieces.
use Rattle.std.specs.Prelude.{◌≡◌, ◌≤◌, ℕ, zero, suc, ◌+◌, ◌-◌, ◌==◌, List, [], ◌∷◌, ◌++◌, length, take, drop, get_or, Result, Ok, Err, Some, None, if◌then◌else◌}
use Rattle.mir_text.specs.declared.symbol.Symbol.{Symbol}
use Rattle.mir_text.specs.declared.symbol.Symbol.TheVariants as s
use Rattle.mir_text.specs.Bytes.{begins}
use Rattle.mir_text.specs.Symbols.{word_symbol, grammar_names, number_in, noted, Token, nothing, symbol, name, string}
use Rattle.mir_lex.specs.declared.kind.Kind.{Kind}
use Rattle.mir_lex.specs.declared.kind.Kind.TheVariants as k
use Rattle.mir_lex.specs.declared.scan.Found.{Found}
use Rattle.mir_lex.specs.declared.scan.Found.TheVariants as f
use Rattle.mir_lex.specs.Tokens.{found_from}
use Rattle.mir_symbols.specs.declared.scan.Symbols.{Symbols}

-- ---- tokens

-- the symbols of the signs, in their order; `?` is the last one
abbrev pub signs : List Symbol
signs =
    s.Open ∷ s.Close ∷ s.OpenBrace ∷ s.CloseBrace ∷ s.OpenBracket ∷ s.CloseBracket ∷ s.Comma ∷ s.Semicolon ∷ s.Colon ∷ s.Colons ∷ s.Dot ∷
    s.Ampersand ∷ s.Star ∷ s.Exclamation ∷ s.Equals ∷ s.Hash ∷ s.Minus ∷ s.Arrow ∷ s.FatArrow ∷ s.Less ∷ s.Greater ∷ s.Bar ∷ []

unfoldable pub sign_symbol : ℕ → Symbol
sign_symbol place = get_or signs place s.Question

unfoldable pub large_symbol : List ℕ → Symbol
large_symbol bs = if begins (λ b. b == 95) bs then s.LargeLocal else s.LargeBlock

-- the symbol of a token that is no name and no string
unfoldable pub plain_symbol : Kind → List ℕ → Symbol
plain_symbol (k.Local n) bs = s.Local n
plain_symbol (k.Block n) bs = s.Block n
plain_symbol (k.Number n None) bs = s.Number n
plain_symbol (k.Number n (Some t)) bs = s.Typed t n
plain_symbol (k.Word place) bs = word_symbol place
plain_symbol (k.Sign place) bs = sign_symbol place
plain_symbol kind bs = large_symbol bs

-- what stands between quotes
abbrev pub inside : List ℕ → List ℕ
inside bs = take (length bs - 2) (drop 1 bs)

-- what a token with these bytes is to the grammar
abbrev pub kind_token : Kind → List ℕ → Token
kind_token k.Name bs = name bs
kind_token k.Text bs = string (inside bs)
kind_token kind bs = symbol (plain_symbol kind bs)

abbrev pub found_token : Found → List ℕ → Token
found_token f.Blank bs = nothing
found_token f.Line bs = nothing
found_token f.Comment bs = nothing
found_token (f.Token kind) bs = kind_token kind bs

-- ---- the symbols so far

abbrev pub with_symbol : Symbols → Symbol → Symbols
with_symbol found x = record found { symbols = found.symbols ++ x ∷ []; lines = found.lines ++ found.end_line ∷ [] }

abbrev pub with_noted : Symbols → List ℕ → Symbols
with_noted found bs = record found { strings = noted found.strings bs }

abbrev pub with_token : Symbols → Token → Symbols
with_token found nothing = found
with_token found (symbol x) = with_symbol found x
with_token found (name bs) = with_symbol (with_noted found bs) (s.Name (number_in found.strings bs))
with_token found (string bs) = with_symbol (with_noted found bs) (s.Text (number_in found.strings bs))

-- after a piece with these bytes
abbrev pub taking : Symbols → Found → List ℕ → Symbols
taking found f.Blank bs = found
taking found f.Comment bs = found
taking found f.Line bs = record found { end_line = found.end_line + 1 }
taking found (f.Token kind) bs = with_token found (kind_token kind bs)

-- byte strings are seen, one after the other
abbrev pub noted_all : List (List ℕ) → List (List ℕ) → List (List ℕ)
noted_all seen [] = seen
noted_all seen (bs ∷ texts) = noted_all (noted seen bs) texts

abbrev pub no_symbols : Symbols
no_symbols = record { symbols = []; lines = []; strings = grammar_names; fault = None; end_line = 1 }

-- ---- a text

abbrev pub goes_on : (Symbols → List ℕ → Symbols) → Symbols → List ℕ → Result (Found × List ℕ) ℕ → Symbols
goes_on more found bs (Ok (fd, past)) = more (taking found fd (take (length bs - length past) bs)) past
goes_on more found bs (Err code) = record found { fault = Some (record { code = code; line = found.end_line }) }

-- the symbols of a text behind those found; the number bounds the turns
unfoldable pub scan_from : ℕ → Symbols → List ℕ → Symbols
scan_from zero found bs = found
scan_from (suc n) found [] = found
scan_from (suc n) found (b ∷ bs) = goes_on (scan_from n) found (b ∷ bs) (found_from (b ∷ bs))

unfoldable pub scan : List ℕ → Symbols
scan bs = scan_from (suc (length bs)) no_symbols bs

-- ---- from item to item

-- where a scan goes on from these symbols over these bytes, it ends with those symbols
abbrev pub EndsWith : Symbols → List ℕ → Symbols → Type 0
EndsWith found bs whole = (turns : ℕ) × (length bs ≤ turns) × (scan_from (suc turns) found bs ≡ whole)

-- symbols with their lines that were given up stand before those found
abbrev pub ahead : List Symbol → List ℕ → Symbols → Symbols
ahead symbols lines found = record found { symbols = symbols ++ found.symbols; lines = lines ++ found.lines }

abbrev pub cleared : Symbols → Symbols
cleared found = record found { symbols = []; lines = [] }

-- each symbol has a line
abbrev pub InStep : Symbols → Type 0
InStep found = length found.lines ≡ length found.symbols
