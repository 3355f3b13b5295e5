-- The first token of pieces that stand together is the first piece.
use Rattle.std.proofs.Common.{◌≡◌, ℕ, zero, suc, ◌+◌, ◌-◌, ◌<◌, ◌≤◌, ◌^◌, Bool, true, false, ◌==◌, nat_lt, List, [], ◌∷◌, ◌++◌, length, take, drop, Ok, Some, None, refl, sym, ap, ◌∙◌, arith, append_assoc, append-nil, length-append}
use Rattle.std.proofs.Math.Seq.{take-append_seam, drop-append_seam}
use Rattle.std.proofs.lemmas.Bool.Decides.{nat_tests}
use Rattle.std.specs.List.{prefix_len}
use Rattle.std.specs.Char.{is_ascii_digit, is_ascii_alphabetic}
use Rattle.std.specs.Str.Parse.{digits_value}
use Rattle.mir_syntax.specs.declared.types.IntTy.{IntTy}
use Rattle.mir_syntax.specs.declared.types.IntTy.TheVariants as i
use Rattle.mir_lex.specs.declared.kind.Kind.TheVariants as k
use Rattle.mir_lex.specs.declared.kind.Token.{Token}
use Rattle.mir_lex.specs.declared.scan.Found.{Found}
use Rattle.mir_lex.specs.declared.scan.Found.TheVariants as f
use Rattle.mir_lex.specs.Tokens.{found_from, number_of, number_at, suffixed, kind_of, word_at, underscore_at, text_past, sign_at, token_at, found_token, slash_at, found_at, goes_on, lexed_from, lexed}
use Rattle.mir_text.specs.Bytes.{begins, is_blank, is_in_line, is_name_byte, suffix_at, suffix_text, AreAll}
use Rattle.mir_text.specs.Pieces.{Mark, open_paren, close_paren, open_brace, close_brace, open_bracket, close_bracket, comma, semicolon, colon, colons, dot, ampersand, star, exclamation, equals, hash, minus, arrow, fat_arrow, less, greater, bar, question, mark_text, Piece, blank, line, comment, local, number, typed, text, word, under, mark, spelled, IsContent, IsPiece, ends_mark, Ends, text_of, Stand, line_after, line_past}
use Rattle.mir_lex.specs.Pieces.{mark_place, found_of, adds_token, tokens_of}

-- ---- a run of bytes that pass, before what doesn't go on with it

run-len : (p : ℕ → Bool) (xs rest : List ℕ) → AreAll p xs → begins p rest ≡ false → prefix_len p (xs ++ rest) ≡ length xs
run-len p [] [] h e = refl
run-len p [] (r ∷ rest) h e = rw e refl
run-len p (x ∷ xs) rest h e = rw (h.0, run-len p xs rest h.1 e) (omega arith)

pub run-front : (p : ℕ → Bool) (xs rest : List ℕ) → AreAll p xs → begins p rest ≡ false → take (prefix_len p (xs ++ rest)) (xs ++ rest) ≡ xs
run-front p xs rest h e = rw (run-len p xs rest h e) (take-append_seam xs rest)

pub run-rest : (p : ℕ → Bool) (xs rest : List ℕ) → AreAll p xs → begins p rest ≡ false → drop (prefix_len p (xs ++ rest)) (xs ++ rest) ≡ rest
run-rest p xs rest h e = rw (run-len p xs rest h e) (drop-append_seam xs rest)

-- ---- a token by its first byte

pub by_digit : (d : ℕ) (bs : List ℕ) → is_ascii_digit d ≡ true → found_at d bs ≡ found_token (number_at (d ∷ bs))
unfolding found_at token_at
by_digit d bs h =
    let a : is_blank d ≡ false = grind (arith, nat_tests) in
    let b : (d == 10) ≡ false = grind (arith, nat_tests) in
    let c : (d == 47) ≡ false = grind (arith, nat_tests) in
    rw (a, b, c, h) refl

by_letter : (d : ℕ) (bs : List ℕ) → is_ascii_alphabetic d ≡ true → found_at d bs ≡ Ok (f.Token (word_at (d ∷ bs)).0, (word_at (d ∷ bs)).1)
unfolding found_at token_at
by_letter d bs h =
    let a : is_blank d ≡ false = grind (arith, nat_tests) in
    let b : (d == 10) ≡ false = grind (arith, nat_tests) in
    let c : (d == 47) ≡ false = grind (arith, nat_tests) in
    let e : is_ascii_digit d ≡ false = grind (arith, nat_tests) in
    rw (a, b, c, e, h) refl

word-run : (bs rest : List ℕ) → AreAll is_name_byte bs → begins is_name_byte rest ≡ false → word_at (bs ++ rest) ≡ (kind_of bs, rest)
unfolding word_at
word-run bs rest h e = rw (run-front is_name_byte bs rest h e, run-rest is_name_byte bs rest h e) refl

letter-name : (b : ℕ) → is_ascii_alphabetic b ≡ true → is_name_byte b ≡ true
letter-name b h = rw h refl

-- ---- numbers

value : (ds : List ℕ) → digits_value 10 ds < 2 ^ 128 → number_of ds ≡ Some (digits_value 10 ds)
unfolding number_of
value ds h = let t : nat_lt (digits_value 10 ds) (2 ^ 128) ≡ true = grind (arith, nat_tests) in rw t refl

number-run : (ds rest : List ℕ) → AreAll is_ascii_digit ds → begins is_ascii_digit rest ≡ false → digits_value 10 ds < 2 ^ 128 → number_at (ds ++ rest) ≡ Ok (suffixed (digits_value 10 ds) rest (suffix_at rest))
unfolding number_at
number-run ds rest h e v = rw (run-front is_ascii_digit ds rest h e, run-rest is_ascii_digit ds rest h e, value ds v) refl

suffix-found : (t : IntTy) (rest : List ℕ) → suffix_at (suffix_text t ++ rest) ≡ Some (t, rest)
unfolding suffix_at
suffix-found i.I8 rest = refl
suffix-found i.I16 rest = refl
suffix-found i.I32 rest = refl
suffix-found i.I64 rest = refl
suffix-found i.I128 rest = refl
suffix-found i.Isize rest = refl
suffix-found i.U8 rest = refl
suffix-found i.U16 rest = refl
suffix-found i.U32 rest = refl
suffix-found i.U64 rest = refl
suffix-found i.U128 rest = refl
suffix-found i.Usize rest = refl

suffix_begins : (t : IntTy) (rest : List ℕ) → begins is_ascii_digit (suffix_text t ++ rest) ≡ false
suffix_begins i.I8 rest = refl
suffix_begins i.I16 rest = refl
suffix_begins i.I32 rest = refl
suffix_begins i.I64 rest = refl
suffix_begins i.I128 rest = refl
suffix_begins i.Isize rest = refl
suffix_begins i.U8 rest = refl
suffix_begins i.U16 rest = refl
suffix_begins i.U32 rest = refl
suffix_begins i.U64 rest = refl
suffix_begins i.U128 rest = refl
suffix_begins i.Usize rest = refl

-- ---- strings

text-found : (taken : Bool) (bs rest : List ℕ) → IsContent taken bs → text_past taken (bs ++ 34 ∷ rest) ≡ Some rest
text-found taken [] rest h = rw h refl
text-found true (b ∷ bs) rest h = rw (h.0) (text-found false bs rest h.2)
text-found false (b ∷ bs) rest h = rw (h.0, h.1 refl) (text-found (b == 92) bs rest h.2)

-- ---- signs

mark-found : (m : Mark) (rest : List ℕ) → ends_mark m rest → found_from (mark_text m ++ rest) ≡ Ok (f.Token (k.Sign (mark_place m)), rest)
unfolding found_at token_at sign_at
mark-found open_paren rest h = refl
mark-found close_paren rest h = refl
mark-found open_brace rest h = refl
mark-found close_brace rest h = refl
mark-found open_bracket rest h = refl
mark-found close_bracket rest h = refl
mark-found comma rest h = refl
mark-found semicolon rest h = refl
mark-found colon [] h = refl
mark-found colon (b ∷ rest) h = rw h refl
mark-found colons rest h = refl
mark-found dot rest h = refl
mark-found ampersand rest h = refl
mark-found star rest h = refl
mark-found exclamation rest h = refl
mark-found equals [] h = refl
mark-found equals (b ∷ rest) h = rw h refl
mark-found hash rest h = refl
mark-found minus [] h = refl
mark-found minus (b ∷ rest) h = rw h refl
mark-found arrow rest h = refl
mark-found fat_arrow rest h = refl
mark-found less rest h = refl
mark-found greater rest h = refl
mark-found bar rest h = refl
mark-found question rest h = refl

-- ---- a piece

pub piece-found : (p : Piece) (rest : List ℕ) → IsPiece p → Ends p rest → found_from (spelled p ++ rest) ≡ Ok (found_of p, rest)
unfolding found_at token_at underscore_at slash_at
piece-found (blank b) rest h e = rw h refl
piece-found line rest h e = refl
piece-found (comment bs) rest h e = rw (run-rest is_in_line (47 ∷ bs) rest (refl, h) e) refl
piece-found (local d ds) rest h e = rw (run-front is_ascii_digit (d ∷ ds) rest h e, run-rest is_ascii_digit (d ∷ ds) rest h e, h.0) refl
piece-found (number d ds) rest h e = rw (by_digit d (ds ++ rest) h.0.0, number-run (d ∷ ds) rest h.0 e.0 h.1, e.1) refl
piece-found (typed d ds t) rest h e =
    rw (append_assoc ds (suffix_text t) rest, by_digit d (ds ++ (suffix_text t ++ rest)) h.0.0, number-run (d ∷ ds) (suffix_text t ++ rest) h.0 (suffix_begins t rest) h.1, suffix-found t rest) refl
piece-found (text bs) rest h e = rw (append_assoc bs (34 ∷ []) rest, text-found false bs rest h) refl
piece-found (word b bs) rest h e = rw (by_letter b (bs ++ rest) h.0, word-run (b ∷ bs) rest (letter-name b h.0, h.1) e) refl
piece-found (under b bs) rest h e = rw (h.1.0, h.0, word-run (95 ∷ b ∷ bs) rest (refl, h.1) e) refl
piece-found (mark m) rest h e = mark-found m rest e

-- ---- all pieces

turn-from : (n size line_no : ℕ) (before : List Token) (bs : List ℕ) (t : Found × List ℕ) → found_from bs ≡ Ok t → lexed_from (suc n) size line_no before bs ≡ goes_on (lexed_from n size) size line_no before bs (Ok t)
unfolding lexed_from
turn-from n size line_no before [] t e = absurd cc
turn-from n size line_no before (b ∷ bs) t e = rw e refl

-- the line after what was found on a line
abbrev line_with : ℕ → Found → ℕ
line_with n f.Blank = n
line_with n f.Line = n + 1
line_with n f.Comment = n
line_with n (f.Token kind) = n

line-found : (n : ℕ) (p : Piece) → line_with n (found_of p) ≡ line_after n p
line-found n (blank b) = refl
line-found n line = refl
line-found n (comment bs) = refl
line-found n (local d ds) = refl
line-found n (number d ds) = refl
line-found n (typed d ds t) = refl
line-found n (text bs) = refl
line-found n (word b bs) = refl
line-found n (under b bs) = refl
line-found n (mark m) = refl

one-goes : (fd : Found) (sp rest : List ℕ) (n size line_no at : ℕ) (before : List Token) → size ≡ at + length (sp ++ rest)
    → goes_on (lexed_from n size) size line_no before (sp ++ rest) (Ok (fd, rest)) ≡ lexed_from n size (line_with line_no fd) (before ++ adds_token line_no at fd sp []) rest
one-goes f.Blank sp rest n size line_no at before e = rw (append-nil before) refl
one-goes f.Comment sp rest n size line_no at before e = rw (append-nil before) refl
one-goes f.Line sp rest n size line_no at before e = rw (append-nil before) refl
one-goes (f.Token kind) sp rest n size line_no at before e =
    let a : size - length (sp ++ rest) ≡ at = omega arith in
    let b : length (sp ++ rest) - length rest ≡ length sp = omega (arith, length-append sp rest) in
    rw (a, b) refl

adds-append : (fd : Found) (line_no at : ℕ) (sp : List ℕ) (ts : List Token) → adds_token line_no at fd sp [] ++ ts ≡ adds_token line_no at fd sp ts
adds-append f.Blank line_no at sp ts = refl
adds-append f.Comment line_no at sp ts = refl
adds-append f.Line line_no at sp ts = refl
adds-append (f.Token kind) line_no at sp ts = refl

-- what pieces that stand together read as, before what is left
pub pieces-lexed : (ps : List Piece) (n m size line_no at : ℕ) (before : List Token) (left : List ℕ) → Stand ps left → n ≡ length ps + m → size ≡ at + length (text_of ps ++ left)
    → lexed_from n size line_no before (text_of ps ++ left) ≡ lexed_from m size (line_past line_no ps) (before ++ tokens_of line_no at ps) left
pieces-lexed [] n m size line_no at before left h e k = let same : n ≡ m = omega arith in rw (same, append-nil before) refl
pieces-lexed (p ∷ ps) zero m size line_no at before left h e k = absurd (omega arith)
pieces-lexed (p ∷ ps) (suc n) m size line_no at before left h e k =
    let rest = text_of ps ++ left in
    let whole : size ≡ at + length (spelled p ++ rest) = k ∙ ap (λ l. at + length l) (append_assoc (spelled p) (text_of ps) left) in
    let ts = adds_token line_no at (found_of p) (spelled p) [] in
    rw (append_assoc (spelled p) (text_of ps) left)
    (turn-from n size line_no before (spelled p ++ rest) (found_of p, rest) (piece-found p rest h.0 h.1)
    ∙ one-goes (found_of p) (spelled p) rest n size line_no at before whole
    ∙ ap (λ c. lexed_from n size c (before ++ ts) rest) (line-found line_no p)
    ∙ pieces-lexed ps n m size (line_after line_no p) (at + length (spelled p)) (before ++ ts) left h.2 (omega arith) (omega (arith, length-append (spelled p) rest))
    ∙ ap (λ l. lexed_from m size (line_past line_no (p ∷ ps)) l left)
    (append_assoc before ts _ ∙ ap (λ l. before ++ l) (adds-append (found_of p) line_no at (spelled p) _)))

mark_bytes : (m : Mark) → 0 < length (mark_text m)
mark_bytes open_paren = omega arith
mark_bytes close_paren = omega arith
mark_bytes open_brace = omega arith
mark_bytes close_brace = omega arith
mark_bytes open_bracket = omega arith
mark_bytes close_bracket = omega arith
mark_bytes comma = omega arith
mark_bytes semicolon = omega arith
mark_bytes colon = omega arith
mark_bytes colons = omega arith
mark_bytes dot = omega arith
mark_bytes ampersand = omega arith
mark_bytes star = omega arith
mark_bytes exclamation = omega arith
mark_bytes equals = omega arith
mark_bytes hash = omega arith
mark_bytes minus = omega arith
mark_bytes arrow = omega arith
mark_bytes fat_arrow = omega arith
mark_bytes less = omega arith
mark_bytes greater = omega arith
mark_bytes bar = omega arith
mark_bytes question = omega arith

pub some_bytes : (p : Piece) → 0 < length (spelled p)
some_bytes (mark m) = mark_bytes m
some_bytes p = omega arith

pub fewer_pieces : (ps : List Piece) → length ps ≤ length (text_of ps)
fewer_pieces [] = omega arith
fewer_pieces (p ∷ ps) = omega (arith, some_bytes p, fewer_pieces ps, length-append (spelled p) (text_of ps))

at_end : (n size line_no : ℕ) (before : List Token) → lexed_from n size line_no before [] ≡ record { tokens = before; fault = None }
unfolding lexed_from
at_end zero size line_no before = refl
at_end (suc n) size line_no before = refl

-- the tokens of a text are those of the pieces that it was made of
pub text-lexed : (ps : List Piece) → Stand ps [] → lexed (text_of ps) ≡ record { tokens = tokens_of 1 0 ps; fault = None }
unfolding lexed
text-lexed ps h =
    let n = suc (length (text_of ps)) in
    let nil = append-nil (text_of ps) in
    ap (λ l. lexed_from n (length (text_of ps)) 1 [] l) (sym nil)
    ∙ pieces-lexed ps n (n - length ps) (length (text_of ps)) 1 0 [] [] h (omega (arith, fewer_pieces ps)) (omega (arith, ap length nil))
    ∙ at_end _ _ _ _
