-- Pieces that are apart from their neighbours stand together.
use Rattle.std.proofs.Common.{◌≡◌, ℕ, true, false, ◌==◌, List, [], ◌∷◌, ◌++◌, None, refl, sym, ap, subst, ◌∙◌, arith, append_assoc}
use Rattle.std.proofs.lemmas.Bool.{eqb-true}
use Rattle.std.proofs.lemmas.Bool.Decides.{nat_tests}
use Rattle.std.specs.Char.{is_ascii_digit}
use Rattle.mir_text.specs.Bytes.{begins, is_in_line, is_name_byte, suffix_at}
use Rattle.mir_text.specs.Pieces.{Mark, open_paren, close_paren, open_brace, close_brace, open_bracket, close_bracket, comma, semicolon, colon, colons, dot, ampersand, star, exclamation, equals, hash, minus, arrow, fat_arrow, less, greater, bar, question, mark_text, Piece, blank, line, comment, local, number, typed, text, word, under, mark, spelled, IsPiece, ends_mark, Ends, text_of, Stand, clear, is_space, apart, Neighbours, ArePieces}

mark-clear : (m : Mark) (l : List ℕ) → (begins is_ascii_digit (mark_text m ++ l) ≡ false) × (begins is_name_byte (mark_text m ++ l) ≡ false) × (suffix_at (mark_text m ++ l) ≡ None)
unfolding suffix_at
mark-clear open_paren l = (refl, refl, refl)
mark-clear close_paren l = (refl, refl, refl)
mark-clear open_brace l = (refl, refl, refl)
mark-clear close_brace l = (refl, refl, refl)
mark-clear open_bracket l = (refl, refl, refl)
mark-clear close_bracket l = (refl, refl, refl)
mark-clear comma l = (refl, refl, refl)
mark-clear semicolon l = (refl, refl, refl)
mark-clear colon l = (refl, refl, refl)
mark-clear colons l = (refl, refl, refl)
mark-clear dot l = (refl, refl, refl)
mark-clear ampersand l = (refl, refl, refl)
mark-clear star l = (refl, refl, refl)
mark-clear exclamation l = (refl, refl, refl)
mark-clear equals l = (refl, refl, refl)
mark-clear hash l = (refl, refl, refl)
mark-clear minus l = (refl, refl, refl)
mark-clear arrow l = (refl, refl, refl)
mark-clear fat_arrow l = (refl, refl, refl)
mark-clear less l = (refl, refl, refl)
mark-clear greater l = (refl, refl, refl)
mark-clear bar l = (refl, refl, refl)
mark-clear question l = (refl, refl, refl)

-- a fact of the text of what is clear
clear-first : (P : List ℕ → Type 0) (q : Piece) (rest : List ℕ) → clear q ≡ true → ((l : List ℕ) → P (32 ∷ l)) → ((l : List ℕ) → P (10 ∷ l)) → ((l : List ℕ) → P (34 ∷ l)) → ((m : Mark) (l : List ℕ) → P (mark_text m ++ l)) → P (spelled q ++ rest)
clear-first P (blank b) rest h space feed quote signs = subst (λ x. P (x ∷ rest)) (sym (eqb-true b 32 h)) (space rest)
clear-first P line rest h space feed quote signs = feed rest
clear-first P (comment bs) rest h space feed quote signs = absurd cc
clear-first P (local d ds) rest h space feed quote signs = absurd cc
clear-first P (number d ds) rest h space feed quote signs = absurd cc
clear-first P (typed d ds t) rest h space feed quote signs = absurd cc
clear-first P (text bs) rest h space feed quote signs = quote ((bs ++ 34 ∷ []) ++ rest)
clear-first P (word b bs) rest h space feed quote signs = absurd cc
clear-first P (under b bs) rest h space feed quote signs = absurd cc
clear-first P (mark m) rest h space feed quote signs = signs m rest

clear-digit : (q : Piece) (rest : List ℕ) → clear q ≡ true → begins is_ascii_digit (spelled q ++ rest) ≡ false
clear-digit q rest h = clear-first (λ l. begins is_ascii_digit l ≡ false) q rest h (λ l. refl) (λ l. refl) (λ l. refl) (λ m l. (mark-clear m l).0)

clear-name : (q : Piece) (rest : List ℕ) → clear q ≡ true → begins is_name_byte (spelled q ++ rest) ≡ false
clear-name q rest h = clear-first (λ l. begins is_name_byte l ≡ false) q rest h (λ l. refl) (λ l. refl) (λ l. refl) (λ m l. (mark-clear m l).1)

clear-suffix : (q : Piece) (rest : List ℕ) → clear q ≡ true → suffix_at (spelled q ++ rest) ≡ None
unfolding suffix_at
clear-suffix q rest h = clear-first (λ l. suffix_at l ≡ None) q rest h (λ l. refl) (λ l. refl) (λ l. refl) (λ m l. (mark-clear m l).2)

space-first : (P : List ℕ → Type 0) (q : Piece) (rest : List ℕ) → is_space q ≡ true → ((l : List ℕ) → P (32 ∷ l)) → ((l : List ℕ) → P (10 ∷ l)) → P (spelled q ++ rest)
space-first P (blank b) rest h space feed = subst (λ x. P (x ∷ rest)) (sym (eqb-true b 32 h)) (space rest)
space-first P line rest h space feed = feed rest
space-first P q rest h space feed = absurd cc

after_minus : (q : Piece) (rest : List ℕ) → apart (mark minus) q ≡ true → IsPiece q → begins (λ b. b == 62) (spelled q ++ rest) ≡ false
after_minus (typed d ds t) rest h is = let e : is_ascii_digit d ≡ true = is.0.0 in grind (arith, nat_tests)
after_minus q rest h is = absurd cc

apart-mark : (m : Mark) (q : Piece) (rest : List ℕ) → apart (mark m) q ≡ true → IsPiece q → ends_mark m (spelled q ++ rest)
apart-mark colon q rest h is = space-first (λ l. begins (λ b. b == 58) l ≡ false) q rest h (λ l. refl) (λ l. refl)
apart-mark equals q rest h is = space-first (λ l. begins (λ b. b == 62) l ≡ false) q rest h (λ l. refl) (λ l. refl)
apart-mark minus q rest h is = after_minus q rest h is
apart-mark m q rest h is = tt

apart-line : (q : Piece) (rest : List ℕ) → apart (comment []) q ≡ true → begins is_in_line (spelled q ++ rest) ≡ false
apart-line line rest h = refl
apart-line q rest h = absurd cc

pub apart-ends : (p q : Piece) (rest : List ℕ) → apart p q ≡ true → IsPiece q → Ends p (spelled q ++ rest)
apart-ends (blank b) q rest h is = tt
apart-ends line q rest h is = tt
apart-ends (comment bs) q rest h is = apart-line q rest h
apart-ends (local d ds) q rest h is = clear-digit q rest h
apart-ends (number d ds) q rest h is = (clear-digit q rest h, clear-suffix q rest h)
apart-ends (typed d ds t) q rest h is = tt
apart-ends (text bs) q rest h is = tt
apart-ends (word b bs) q rest h is = clear-name q rest h
apart-ends (under b bs) q rest h is = clear-name q rest h
apart-ends (mark m) q rest h is = apart-mark m q rest h is

mark_last : (m : Mark) → ends_mark m []
mark_last colon = refl
mark_last equals = refl
mark_last minus = refl
mark_last m = tt

ends_last : (p : Piece) → Ends p []
unfolding suffix_at
ends_last (comment bs) = refl
ends_last (local d ds) = refl
ends_last (number d ds) = (refl, refl)
ends_last (word b bs) = refl
ends_last (under b bs) = refl
ends_last (mark m) = mark_last m
ends_last p = tt

-- what each piece and each two neighbours show holds of all
pub stand : (ps : List Piece) → ArePieces ps → Neighbours ps → Stand ps []
stand [] is near = tt
stand (p ∷ []) is near = (is.0, ends_last p, tt)
stand (p ∷ q ∷ ps) is near = (is.0, subst (Ends p) (sym (append_assoc (spelled q) (text_of ps) [])) (apart-ends p q (text_of ps ++ []) near.0 is.1.0), stand (q ∷ ps) is.1 near.1)

pub text_of-append : (ps qs : List Piece) → text_of (ps ++ qs) ≡ text_of ps ++ text_of qs
text_of-append [] qs = refl
text_of-append (p ∷ ps) qs = ap (λ l. spelled p ++ l) (text_of-append ps qs) ∙ sym (append_assoc (spelled p) (text_of ps) (text_of qs))

pub stand-append : (ps qs : List Piece) (left : List ℕ) → Stand ps (text_of qs ++ left) → Stand qs left → Stand (ps ++ qs) left
stand-append [] qs left h k = k
stand-append (p ∷ ps) qs left h k =
    (h.0, subst (Ends p) (sym (append_assoc (text_of ps) (text_of qs) left) ∙ ap (λ l. l ++ left) (sym (text_of-append ps qs))) h.1, stand-append ps qs left h.2 k)
