-- What is taken piece by piece: the symbols of the pieces.
use Rattle.std.proofs.Common.{◌≡◌, ℕ, suc, ◌+◌, ◌-◌, ◌<◌, ◌^◌, Bool, true, false, ◌==◌, nat_lt, List, [], ◌∷◌, ◌++◌, length, take, map, Ok, Option, Some, None, refl, sym, ap, ◌∙◌, arith, append_assoc, append-nil, length-append}
use Rattle.std.proofs.Math.Seq.{take-append_seam}
use Rattle.std.proofs.lemmas.Bool.Decides.{nat_tests}
use Rattle.std.specs.Char.{is_ascii_alphabetic}
use Rattle.std.specs.Str.Parse.{digits_value}
use Rattle.mir_text.specs.declared.symbol.Symbol.TheVariants as s
use Rattle.mir_text.specs.Pieces.{Mark, open_paren, close_paren, open_brace, close_brace, open_bracket, close_bracket, comma, semicolon, colon, colons, dot, ampersand, star, exclamation, equals, hash, minus, arrow, fat_arrow, less, greater, bar, question, Piece, blank, line, comment, local, number, typed, text, word, under, mark, spelled, IsPiece, Ends, text_of, Stand, line_after, line_past}
use Rattle.mir_text.specs.Symbols.{Token, nothing, symbol, name, string, numbered, block_digits, block_or_word, word_token, token_of, mark_symbol, seen_after, put_token, Lined, symbols_from, strings_from, symbol_in, line_in}
use Rattle.mir_text.specs.Words.{word_place}
use Rattle.mir_lex.specs.declared.kind.Kind.TheVariants as k
use Rattle.mir_lex.specs.declared.scan.Found.{Found}
use Rattle.mir_lex.specs.Tokens.{number_of, local_of, block_of, kind_by, kind_of, found_from}
use Rattle.mir_lex.specs.Pieces.{mark_place, found_of}
use Rattle.mir_lex.proofs.PiecesFound.{piece-found, some_bytes}
use Rattle.mir_lex.proofs.PiecesSound.{on}
use Rattle.mir_symbols.specs.declared.scan.Symbols.{Symbols}
use Rattle.mir_symbols.specs.Scan.{sign_symbol, large_symbol, plain_symbol, inside, kind_token, with_token, taking, goes_on, scan_from}

-- ---- a token of a piece

small_or_not : (v : ℕ) → nat_lt v (2 ^ 128) ≡ false → nat_lt v (2 ^ 32) ≡ false
small_or_not v e = grind (arith, nat_tests)

local-token : (ds bs : List ℕ) → large_symbol bs ≡ s.LargeLocal → kind_token (local_of ds) bs ≡ symbol (numbered s.Local s.LargeLocal (digits_value 10 ds))
unfolding local_of number_of plain_symbol
local-token ds bs large = on (nat_lt (digits_value 10 ds) (2 ^ 128))
    (λ e. rw e (on (nat_lt (digits_value 10 ds) (2 ^ 32)) (λ l. rw l refl) (λ l. rw (l, large) refl)))
    (λ e. rw (small_or_not (digits_value 10 ds) e, e, large) refl)

block-token : (ds bs : List ℕ) → large_symbol bs ≡ s.LargeBlock → kind_token (block_of ds) bs ≡ symbol (numbered s.Block s.LargeBlock (digits_value 10 ds))
unfolding block_of number_of plain_symbol
block-token ds bs large = on (nat_lt (digits_value 10 ds) (2 ^ 128))
    (λ e. rw e (on (nat_lt (digits_value 10 ds) (2 ^ 32)) (λ l. rw l refl) (λ l. rw (l, large) refl)))
    (λ e. rw (small_or_not (digits_value 10 ds) e, e, large) refl)

word-by : (t : List ℕ) (digits : Option (List ℕ)) (place : Option ℕ) → word_place t ≡ place → large_symbol t ≡ s.LargeBlock → kind_token (kind_by digits place) t ≡ block_or_word t digits
unfolding plain_symbol
word-by t (Some ds) place at large = block-token ds t large
word-by t None (Some n) at large = rw at refl
word-by t None None at large = rw at refl

under-by : (t : List ℕ) (place : Option ℕ) → word_place t ≡ place → kind_token (kind_by None place) t ≡ block_or_word t None
unfolding plain_symbol
under-by t (Some n) at = rw at refl
under-by t None at = rw at refl

large-word : (b : ℕ) (bs : List ℕ) → is_ascii_alphabetic b ≡ true → large_symbol (b ∷ bs) ≡ s.LargeBlock
unfolding large_symbol
large-word b bs h = let e : (b == 95) ≡ false = grind (arith, nat_tests) in rw e refl

large-local : (bs : List ℕ) → large_symbol (95 ∷ bs) ≡ s.LargeLocal
unfolding large_symbol
large-local bs = refl

inside-quotes : (bs : List ℕ) → inside (34 ∷ bs ++ 34 ∷ []) ≡ bs
inside-quotes bs =
    let n : length (34 ∷ bs ++ 34 ∷ []) - 2 ≡ length bs = omega (arith, length-append bs (34 ∷ [])) in
    ap (λ m. take m (bs ++ 34 ∷ [])) n ∙ take-append_seam bs (34 ∷ [])

mark-token : (m : Mark) → plain_symbol (k.Sign (mark_place m)) (spelled (mark m)) ≡ mark_symbol m
unfolding plain_symbol sign_symbol
mark-token open_paren = refl
mark-token close_paren = refl
mark-token open_brace = refl
mark-token close_brace = refl
mark-token open_bracket = refl
mark-token close_bracket = refl
mark-token comma = refl
mark-token semicolon = refl
mark-token colon = refl
mark-token colons = refl
mark-token dot = refl
mark-token ampersand = refl
mark-token star = refl
mark-token exclamation = refl
mark-token equals = refl
mark-token hash = refl
mark-token minus = refl
mark-token arrow = refl
mark-token fat_arrow = refl
mark-token less = refl
mark-token greater = refl
mark-token bar = refl
mark-token question = refl

word-piece : (b : ℕ) (bs : List ℕ) → is_ascii_alphabetic b ≡ true → kind_token (kind_of (b ∷ bs)) (b ∷ bs) ≡ word_token (b ∷ bs)
unfolding kind_of word_token
word-piece b bs h = word-by (b ∷ bs) (block_digits (b ∷ bs)) (word_place (b ∷ bs)) refl (large-word b bs h)

under-piece : (b : ℕ) (bs : List ℕ) → kind_token (kind_of (95 ∷ b ∷ bs)) (95 ∷ b ∷ bs) ≡ word_token (95 ∷ b ∷ bs)
unfolding kind_of word_token block_digits
under-piece b bs = under-by (95 ∷ b ∷ bs) (word_place (95 ∷ b ∷ bs)) refl

number-token : (n : ℕ) (bs : List ℕ) → kind_token (k.Number n None) bs ≡ symbol (s.Number n)
unfolding plain_symbol
number-token n bs = refl

typed-token : (d : ℕ) (ds : List ℕ) (t : _) → kind_token (k.Number (digits_value 10 (d ∷ ds)) (Some t)) (spelled (typed d ds t)) ≡ token_of (typed d ds t)
unfolding plain_symbol
typed-token d ds t = refl

-- ---- the symbols after a piece, and after pieces

abbrev pub with_piece : Symbols → Piece → Symbols
with_piece found p = record (with_token found (token_of p)) { end_line = line_after found.end_line p }

same-line : (found : Symbols) (t : Token) → with_token found t ≡ record (with_token found t) { end_line = found.end_line }
same-line found nothing = refl
same-line found (symbol x) = refl
same-line found (name bs) = refl
same-line found (string bs) = refl

token-piece : (found : Symbols) (t u : Token) → t ≡ u → with_token found t ≡ record (with_token found u) { end_line = found.end_line }
token-piece found t u e = ap (with_token found) e ∙ same-line found u

pub taking-piece : (found : Symbols) (p : Piece) → IsPiece p → taking found (found_of p) (spelled p) ≡ with_piece found p
taking-piece found (blank b) is = refl
taking-piece found line is = refl
taking-piece found (comment bs) is = refl
taking-piece found (local d ds) is = token-piece found _ (token_of (local d ds)) (local-token (d ∷ ds) (95 ∷ d ∷ ds) (large-local (d ∷ ds)))
taking-piece found (number d ds) is = token-piece found _ (token_of (number d ds)) (number-token (digits_value 10 (d ∷ ds)) (d ∷ ds))
taking-piece found (typed d ds t) is = token-piece found _ (token_of (typed d ds t)) (typed-token d ds t)
taking-piece found (text bs) is = token-piece found _ (token_of (text bs)) (ap string (inside-quotes bs))
taking-piece found (word b bs) is = token-piece found _ (token_of (word b bs)) (word-piece b bs is.0)
taking-piece found (under b bs) is = token-piece found _ (token_of (under b bs)) (under-piece b bs)
taking-piece found (mark m) is = token-piece found _ (token_of (mark m)) (ap symbol (mark-token m))

abbrev pub after : Symbols → List Piece → Symbols
after found [] = found
after found (p ∷ ps) = after (with_piece found p) ps

put-symbols : (found : Symbols) (t : Token) (rest : List Lined) → (with_token found t).symbols ++ map symbol_in rest ≡ found.symbols ++ map symbol_in (put_token found.strings found.end_line t rest)
put-symbols found nothing rest = refl
put-symbols found (symbol x) rest = append_assoc found.symbols (x ∷ []) (map symbol_in rest)
put-symbols found (name bs) rest = append_assoc found.symbols _ (map symbol_in rest)
put-symbols found (string bs) rest = append_assoc found.symbols _ (map symbol_in rest)

put-lines : (found : Symbols) (t : Token) (rest : List Lined) → (with_token found t).lines ++ map line_in rest ≡ found.lines ++ map line_in (put_token found.strings found.end_line t rest)
put-lines found nothing rest = refl
put-lines found (symbol x) rest = append_assoc found.lines (found.end_line ∷ []) (map line_in rest)
put-lines found (name bs) rest = append_assoc found.lines (found.end_line ∷ []) (map line_in rest)
put-lines found (string bs) rest = append_assoc found.lines (found.end_line ∷ []) (map line_in rest)

put-strings : (found : Symbols) (t : Token) → (with_token found t).strings ≡ seen_after found.strings t
put-strings found nothing = refl
put-strings found (symbol x) = refl
put-strings found (name bs) = refl
put-strings found (string bs) = refl

put-fault : (found : Symbols) (t : Token) → (with_token found t).fault ≡ found.fault
put-fault found nothing = refl
put-fault found (symbol x) = refl
put-fault found (name bs) = refl
put-fault found (string bs) = refl

pub after-symbols : (found : Symbols) (ps : List Piece) → (after found ps).symbols ≡ found.symbols ++ map symbol_in (symbols_from found.strings found.end_line ps)
after-symbols found [] = sym (append-nil found.symbols)
after-symbols found (p ∷ ps) =
    after-symbols (with_piece found p) ps
    ∙ ap (λ seen. (with_token found (token_of p)).symbols ++ map symbol_in (symbols_from seen (line_after found.end_line p) ps)) (put-strings found (token_of p))
    ∙ put-symbols found (token_of p) (symbols_from (seen_after found.strings (token_of p)) (line_after found.end_line p) ps)

pub after-lines : (found : Symbols) (ps : List Piece) → (after found ps).lines ≡ found.lines ++ map line_in (symbols_from found.strings found.end_line ps)
after-lines found [] = sym (append-nil found.lines)
after-lines found (p ∷ ps) =
    after-lines (with_piece found p) ps
    ∙ ap (λ seen. (with_token found (token_of p)).lines ++ map line_in (symbols_from seen (line_after found.end_line p) ps)) (put-strings found (token_of p))
    ∙ put-lines found (token_of p) (symbols_from (seen_after found.strings (token_of p)) (line_after found.end_line p) ps)

pub after-strings : (found : Symbols) (ps : List Piece) → (after found ps).strings ≡ strings_from found.strings ps
after-strings found [] = refl
after-strings found (p ∷ ps) = after-strings (with_piece found p) ps ∙ ap (λ seen. strings_from seen ps) (put-strings found (token_of p))

pub after-line : (found : Symbols) (ps : List Piece) → (after found ps).end_line ≡ line_past found.end_line ps
after-line found [] = refl
after-line found (p ∷ ps) = after-line (with_piece found p) ps

pub after-fault : (found : Symbols) (ps : List Piece) → (after found ps).fault ≡ found.fault
after-fault found [] = refl
after-fault found (p ∷ ps) = after-fault (with_piece found p) ps ∙ put-fault found (token_of p)

-- ---- turns

pub scan-turn : (n : ℕ) (found : Symbols) (bs : List ℕ) → 0 < length bs → scan_from (suc n) found bs ≡ goes_on (scan_from n) found bs (found_from bs)
unfolding scan_from
scan-turn n found [] h = absurd (omega arith)
scan-turn n found (b ∷ bs) h = refl

-- one turn, where a piece is found
pub scan_goes : (turns n : ℕ) (found next : Symbols) (bs past : List ℕ) (fd : Found) → turns ≡ suc n → 0 < length bs → found_from bs ≡ Ok (fd, past)
    → next ≡ taking found fd (take (length bs - length past) bs) → scan_from (suc turns) found bs ≡ scan_from (suc n) next past
scan_goes turns n found next bs past fd e some at taken =
    ap (λ t. scan_from (suc t) found bs) e ∙ scan-turn (suc n) found bs some ∙ ap (goes_on (scan_from (suc n)) found bs) at ∙ ap (λ next. scan_from (suc n) next past) (sym taken)

front : (a rest : List ℕ) → take (length (a ++ rest) - length rest) (a ++ rest) ≡ a
front a rest =
    let n : length (a ++ rest) - length rest ≡ length a = omega (arith, length-append a rest) in
    ap (λ m. take m (a ++ rest)) n ∙ take-append_seam a rest

scan-piece : (n : ℕ) (found : Symbols) (p : Piece) (rest : List ℕ) → IsPiece p → Ends p rest → scan_from (suc n) found (spelled p ++ rest) ≡ scan_from n (with_piece found p) rest
scan-piece n found p rest is ends =
    let some : 0 < length (spelled p ++ rest) = omega (arith, length-append (spelled p) rest, some_bytes p) in
    scan-turn n found (spelled p ++ rest) some
    ∙ ap (goes_on (scan_from n) found (spelled p ++ rest)) (piece-found p rest is ends)
    ∙ ap (λ bs. scan_from n (taking found (found_of p) bs) rest) (front (spelled p) rest)
    ∙ ap (λ next. scan_from n next rest) (taking-piece found p is)

pub pieces-scanned : (ps : List Piece) (n m : ℕ) (found : Symbols) (left : List ℕ) → Stand ps left → n ≡ m + length ps → scan_from n found (text_of ps ++ left) ≡ scan_from m (after found ps) left
pieces-scanned [] n m found left stand e = let same : n ≡ m = omega arith in ap (λ n. scan_from n found left) same
pieces-scanned (p ∷ ps) n m found left stand e =
    let one : n ≡ suc (m + length ps) = omega arith in
    ap (λ n. scan_from n found ((spelled p ++ text_of ps) ++ left)) one
    ∙ ap (scan_from (suc (m + length ps)) found) (append_assoc (spelled p) (text_of ps) left)
    ∙ scan-piece (m + length ps) found p (text_of ps ++ left) stand.0 stand.1
    ∙ pieces-scanned ps (m + length ps) m (with_piece found p) left stand.2 refl
