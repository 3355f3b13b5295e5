-- Cuts a text into pieces, and tells that pieces stand together: so a fact about a text is computed from its bytes.
use Rattle.std.proofs.Common.{◌≡◌, ◌<◌, ◌^◌, ℕ, zero, suc, Bool, true, false, ◌==◌, nat_lt, List, [], ◌∷◌, ◌++◌, length, take, drop, Option, Some, None, refl, is_some}
use Rattle.std.proofs.lemmas.Bool.{ltb-true}
use Rattle.std.specs.Prelude.{if◌then◌else◌}
use Rattle.std.specs.List.{prefix_len}
use Rattle.std.specs.Char.{is_ascii_digit, is_ascii_alphabetic}
use Rattle.std.specs.Str.Parse.{digits_value}
use Rattle.mir_syntax.specs.declared.types.IntTy.{IntTy}
use Rattle.mir_text.specs.Bytes.{AreAll, begins, is_blank, is_in_line, is_name_byte, suffix_at}
use Rattle.mir_text.specs.Pieces.{Mark, open_paren, close_paren, open_brace, close_brace, open_bracket, close_bracket, comma, semicolon, colon, colons, dot, ampersand, star, exclamation, equals, hash, minus, arrow, fat_arrow, less, greater, bar, question, Piece, blank, line, comment, local, number, typed, text, word, under, mark, taken_next, IsContent, IsPiece, ends_mark, Ends, text_of, Stand}

-- ---- pieces

abbrev Found : Type 0
Found = Piece × List ℕ

abbrev front : (ℕ → Bool) → List ℕ → List ℕ
front p bs = take (prefix_len p bs) bs

abbrev back : (ℕ → Bool) → List ℕ → List ℕ
back p bs = drop (prefix_len p bs) bs

abbrev with_suffix : ℕ → List ℕ → List ℕ → Option (IntTy × List ℕ) → Found
with_suffix d ds rest None = (number d ds, rest)
with_suffix d ds rest (Some s) = (typed d ds s.0, s.1)

unfoldable pub number_piece : ℕ → List ℕ → Found
number_piece d bs = with_suffix d (front is_ascii_digit bs) (back is_ascii_digit bs) (suffix_at (back is_ascii_digit bs))

abbrev under_piece : List ℕ → Found
under_piece [] = (under 0 [], [])
under_piece (b ∷ bs) =
    if is_ascii_digit b then (local b (front is_ascii_digit bs), back is_ascii_digit bs)
    else (under b (front is_name_byte bs), back is_name_byte bs)

-- how many bytes stand before the quote that closes a string
abbrev content_len : Bool → List ℕ → ℕ
content_len taken [] = 0
content_len true (b ∷ bs) = suc (content_len false bs)
content_len false (b ∷ bs) = if b == 34 then 0 else suc (content_len (b == 92) bs)

abbrev text_piece : List ℕ → Found
text_piece bs = (text (take (content_len false bs) bs), drop (suc (content_len false bs)) bs)

abbrev comment_piece : List ℕ → Found
comment_piece [] = (comment [], [])
comment_piece (b ∷ bs) = (comment (front is_in_line bs), back is_in_line bs)

abbrev two : ℕ → Mark → Mark → List ℕ → Found
two second long short [] = (mark short, [])
two second long short (b ∷ bs) = if b == second then (mark long, bs) else (mark short, b ∷ bs)

abbrev mark_piece : ℕ → List ℕ → Found
mark_piece b bs =
    if b == 40 then (mark open_paren, bs) else (if b == 41 then (mark close_paren, bs)
    else (if b == 123 then (mark open_brace, bs) else (if b == 125 then (mark close_brace, bs)
    else (if b == 91 then (mark open_bracket, bs) else (if b == 93 then (mark close_bracket, bs)
    else (if b == 44 then (mark comma, bs) else (if b == 59 then (mark semicolon, bs)
    else (if b == 58 then two 58 colons colon bs else (if b == 46 then (mark dot, bs)
    else (if b == 38 then (mark ampersand, bs) else (if b == 42 then (mark star, bs)
    else (if b == 33 then (mark exclamation, bs) else (if b == 61 then two 62 fat_arrow equals bs
    else (if b == 35 then (mark hash, bs) else (if b == 45 then two 62 arrow minus bs
    else (if b == 60 then (mark less, bs) else (if b == 62 then (mark greater, bs)
    else (if b == 124 then (mark bar, bs) else (mark question, bs)))))))))))))))))))

unfoldable pub piece_at : ℕ → List ℕ → Found
piece_at b bs =
    if is_blank b then (blank b, bs)
    else (if b == 10 then (line, bs)
    else (if b == 47 then comment_piece bs
    else (if is_ascii_digit b then number_piece b bs
    else (if is_ascii_alphabetic b then (word b (front is_name_byte bs), back is_name_byte bs)
    else (if b == 95 then under_piece bs
    else (if b == 34 then text_piece bs else mark_piece b bs))))))

abbrev and_then : (List ℕ → List Piece) → Found → List Piece
and_then more (p, rest) = p ∷ more rest

unfoldable pub cut_from : ℕ → List ℕ → List Piece
cut_from zero bs = []
cut_from (suc n) [] = []
cut_from (suc n) (b ∷ bs) = and_then (cut_from n) (piece_at b bs)

-- the pieces of a text
unfoldable pub cut : List ℕ → List Piece
cut bs = cut_from (length bs) bs

-- ---- pieces that stand together

abbrev if_true : (b : Bool) → Option (b ≡ true)
if_true true = Some refl
if_true false = None

abbrev if_false : (b : Bool) → Option (b ≡ false)
if_false true = None
if_false false = Some refl

abbrev both : {A B : Type 0} → Option A → Option B → Option (A × B)
both None b = None
both (Some a) None = None
both (Some a) (Some b) = Some (a, b)

abbrev all_three : {A B C : Type 0} → Option A → Option B → Option C → Option (A × B × C)
all_three (Some a) (Some b) (Some c) = Some (a, b, c)
all_three a b c = None

abbrev if_none : {A : Type 0} → (o : Option A) → Option (o ≡ None)
if_none None = Some refl
if_none (Some a) = None

abbrev when : {A B : Type 0} → (A → B) → Option A → Option B
when f None = None
when f (Some a) = Some (f a)

abbrev pub if_all : (p : ℕ → Bool) (bs : List ℕ) → Option (AreAll p bs)
if_all p [] = Some tt
if_all p (b ∷ bs) = both (if_true (p b)) (if_all p bs)

abbrev if_small : (n : ℕ) → Option (n < 2 ^ 128)
if_small n = when (ltb-true n (2 ^ 128)) (if_true (nat_lt n (2 ^ 128)))

pub apart : true ≡ false → ⊥
apart e = absurd cc

abbrev unless_taken : (taken : Bool) (b : ℕ) → Option (taken ≡ false → (b == 34) ≡ false)
unless_taken true b = Some (λ e. absurd (apart e))
unless_taken false b = when (λ h e. h) (if_false (b == 34))

abbrev if_content : (taken : Bool) (bs : List ℕ) → Option (IsContent taken bs)
if_content taken [] = if_false taken
if_content taken (b ∷ bs) = all_three (if_false (b == 10)) (unless_taken taken b) (if_content (taken_next taken b) bs)

abbrev if_piece : (p : Piece) → Option (IsPiece p)
if_piece (blank b) = if_true (is_blank b)
if_piece line = Some tt
if_piece (comment bs) = if_all is_in_line bs
if_piece (local d ds) = if_all is_ascii_digit (d ∷ ds)
if_piece (number d ds) = both (if_all is_ascii_digit (d ∷ ds)) (if_small (digits_value 10 (d ∷ ds)))
if_piece (typed d ds t) = both (if_all is_ascii_digit (d ∷ ds)) (if_small (digits_value 10 (d ∷ ds)))
if_piece (text bs) = if_content false bs
if_piece (word b bs) = both (if_true (is_ascii_alphabetic b)) (if_all is_name_byte bs)
if_piece (under b bs) = both (if_false (is_ascii_digit b)) (if_all is_name_byte (b ∷ bs))
if_piece (mark m) = Some tt

abbrev if_mark_ends : (m : Mark) (after : List ℕ) → Option (ends_mark m after)
if_mark_ends colon after = if_false (begins (λ b. b == 58) after)
if_mark_ends equals after = if_false (begins (λ b. b == 62) after)
if_mark_ends minus after = if_false (begins (λ b. b == 62) after)
if_mark_ends open_paren after = Some tt
if_mark_ends close_paren after = Some tt
if_mark_ends open_brace after = Some tt
if_mark_ends close_brace after = Some tt
if_mark_ends open_bracket after = Some tt
if_mark_ends close_bracket after = Some tt
if_mark_ends comma after = Some tt
if_mark_ends semicolon after = Some tt
if_mark_ends colons after = Some tt
if_mark_ends dot after = Some tt
if_mark_ends ampersand after = Some tt
if_mark_ends star after = Some tt
if_mark_ends exclamation after = Some tt
if_mark_ends hash after = Some tt
if_mark_ends arrow after = Some tt
if_mark_ends fat_arrow after = Some tt
if_mark_ends less after = Some tt
if_mark_ends greater after = Some tt
if_mark_ends bar after = Some tt
if_mark_ends question after = Some tt

abbrev if_ends : (p : Piece) (after : List ℕ) → Option (Ends p after)
if_ends (blank b) after = Some tt
if_ends line after = Some tt
if_ends (comment bs) after = if_false (begins is_in_line after)
if_ends (local d ds) after = if_false (begins is_ascii_digit after)
if_ends (number d ds) after = both (if_false (begins is_ascii_digit after)) (if_none (suffix_at after))
if_ends (typed d ds t) after = Some tt
if_ends (text bs) after = Some tt
if_ends (word b bs) after = if_false (begins is_name_byte after)
if_ends (under b bs) after = if_false (begins is_name_byte after)
if_ends (mark m) after = if_mark_ends m after

abbrev pub if_stand : (ps : List Piece) (left : List ℕ) → Option (Stand ps left)
if_stand [] left = Some tt
if_stand (p ∷ ps) left = all_three (if_piece p) (if_ends p (text_of ps ++ left)) (if_stand ps left)

pub from_some : {A : Type 0} → (o : Option A) → is_some o ≡ true → A
from_some None e = absurd cc
from_some (Some a) e = a

-- pieces that were found to stand together do
pub stands : (ps : List Piece) (left : List ℕ) → is_some (if_stand ps left) ≡ true → Stand ps left
stands ps left e = from_some (if_stand ps left) e
