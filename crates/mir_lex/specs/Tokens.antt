-- What the scanner's functions answer, each as a function on lists. No public promise rests on these: those of `Pieces.antt` speak of pieces.
use Rattle.std.specs.Prelude.{ℕ, zero, suc, ◌+◌, ◌-◌, ◌^◌, ◌≡◌, Bool, false, ◌==◌, nat_lt, List, [], ◌∷◌, ◌++◌, length, take, drop, Result, Ok, Err, Option, Some, None, IsTrue, if◌then◌else◌}
use Rattle.std.specs.List.{prefix_len}
use Rattle.std.specs.Char.{is_ascii_digit, is_ascii_alphabetic}
use Rattle.std.specs.Str.Parse.{digits_value}
use Rattle.mir_syntax.specs.declared.types.IntTy.{IntTy}
use Rattle.mir_lex.specs.declared.kind.Kind.{Kind}
use Rattle.mir_lex.specs.declared.kind.Kind.TheVariants as k
use Rattle.mir_lex.specs.declared.kind.Token.{Token}
use Rattle.mir_lex.specs.declared.kind.Lexed.{Lexed}
use Rattle.mir_lex.specs.declared.scan.Found.{Found}
use Rattle.mir_lex.specs.declared.scan.Found.TheVariants as f
use Rattle.mir_text.specs.Bytes.{begins, is_blank, is_in_line, is_name_byte, suffix_at}
use Rattle.mir_text.specs.Symbols.{block_digits}
use Rattle.mir_text.specs.Words.{word_place}

-- ---- digits

abbrev pub digits_front : List ℕ → List ℕ
digits_front bs = take (prefix_len is_ascii_digit bs) bs

abbrev pub digits_rest : List ℕ → List ℕ
digits_rest bs = drop (prefix_len is_ascii_digit bs) bs

-- nothing but digits
abbrev pub AreDigits : List ℕ → Type 0
AreDigits [] = Unit {0}
AreDigits (d ∷ ds) = IsTrue (is_ascii_digit d) × AreDigits ds

-- the number that digits write, where it is below 2^128
unfoldable pub number_of : List ℕ → Option ℕ
number_of ds = if nat_lt (digits_value 10 ds) (2 ^ 128) then Some (digits_value 10 ds) else None

-- ---- numbers

abbrev pub suffixed : ℕ → List ℕ → Option (IntTy × List ℕ) → Kind × List ℕ
suffixed n bs None = (k.Number n None, bs)
suffixed n bs (Some s) = (k.Number n (Some s.0), s.1)

abbrev pub number_with : Option ℕ → List ℕ → Result (Kind × List ℕ) ℕ
number_with None bs = Err 2
number_with (Some n) bs = Ok (suffixed n bs (suffix_at bs))

-- digits, and then what may follow them in a number
unfoldable pub number_at : List ℕ → Result (Kind × List ℕ) ℕ
number_at bs = number_with (number_of (digits_front bs)) (digits_rest bs)

-- ---- names, words, locals and blocks

abbrev pub numbered_by : (ℕ → Kind) → Option ℕ → Kind
numbered_by kind None = k.Large
numbered_by kind (Some n) = if nat_lt n (2 ^ 32) then kind n else k.Large

-- the kind of a local or a block with these digits
unfoldable pub local_of : List ℕ → Kind
local_of ds = numbered_by k.Local (number_of ds)

unfoldable pub block_of : List ℕ → Kind
block_of ds = numbered_by k.Block (number_of ds)

abbrev pub kind_by : Option (List ℕ) → Option ℕ → Kind
kind_by (Some ds) place = block_of ds
kind_by None (Some place) = k.Word place
kind_by None None = k.Name

-- what letters, digits and `_` are together
unfoldable pub kind_of : List ℕ → Kind
kind_of text = kind_by (block_digits text) (word_place text)

unfoldable pub word_at : List ℕ → Kind × List ℕ
word_at bs = (kind_of (take (prefix_len is_name_byte bs) bs), drop (prefix_len is_name_byte bs) bs)

-- what begins with `_`
unfoldable pub underscore_at : List ℕ → Result (Kind × List ℕ) ℕ
underscore_at past =
    if begins is_ascii_digit past then Ok (local_of (digits_front past), digits_rest past)
    else (if begins is_name_byte past then Ok (word_at (95 ∷ past)) else Err 1)

-- ---- strings

-- what follows the quote that closes a string, in the same line; a backslash takes the next byte along
abbrev pub text_past : Bool → List ℕ → Option (List ℕ)
text_past taken [] = None
text_past taken (b ∷ bs) =
    if b == 10 then None
    else (if taken then text_past false bs
    else (if b == 34 then Some bs else text_past (b == 92) bs))

abbrev pub text_with : Option (List ℕ) → Result (Kind × List ℕ) ℕ
text_with None = Err 3
text_with (Some bs) = Ok (k.Text, bs)

-- ---- signs

-- a sign of two bytes, where its second byte follows, or else the sign of the first byte
abbrev pub sign_two : ℕ → ℕ → ℕ → List ℕ → Kind × List ℕ
sign_two second two one [] = (k.Sign one, [])
sign_two second two one (b ∷ bs) = if b == second then (k.Sign two, bs) else (k.Sign one, b ∷ bs)

unfoldable pub sign_at : ℕ → List ℕ → Result (Kind × List ℕ) ℕ
sign_at b past =
    if b == 40 then Ok (k.Sign 0, past) else (if b == 41 then Ok (k.Sign 1, past)
    else (if b == 123 then Ok (k.Sign 2, past) else (if b == 125 then Ok (k.Sign 3, past)
    else (if b == 91 then Ok (k.Sign 4, past) else (if b == 93 then Ok (k.Sign 5, past)
    else (if b == 44 then Ok (k.Sign 6, past) else (if b == 59 then Ok (k.Sign 7, past)
    else (if b == 58 then Ok (sign_two 58 9 8 past) else (if b == 46 then Ok (k.Sign 10, past)
    else (if b == 38 then Ok (k.Sign 11, past) else (if b == 42 then Ok (k.Sign 12, past)
    else (if b == 33 then Ok (k.Sign 13, past) else (if b == 61 then Ok (sign_two 62 18 14 past)
    else (if b == 35 then Ok (k.Sign 15, past) else (if b == 45 then Ok (sign_two 62 17 16 past)
    else (if b == 60 then Ok (k.Sign 19, past) else (if b == 62 then Ok (k.Sign 20, past)
    else (if b == 124 then Ok (k.Sign 21, past) else (if b == 63 then Ok (k.Sign 22, past)
    else Err 1)))))))))))))))))))

-- ---- a token

-- the first token of a text that begins with the byte b
unfoldable pub token_at : ℕ → List ℕ → Result (Kind × List ℕ) ℕ
token_at b past =
    if is_ascii_digit b then number_at (b ∷ past)
    else (if is_ascii_alphabetic b then Ok (word_at (b ∷ past))
    else (if b == 95 then underscore_at past
    else (if b == 34 then text_with (text_past false past)
    else sign_at b past)))

-- ---- a text

abbrev pub found_token : Result (Kind × List ℕ) ℕ → Result (Found × List ℕ) ℕ
found_token (Ok t) = Ok (f.Token t.0, t.1)
found_token (Err code) = Err code

-- a comment goes to the end of its line
unfoldable pub slash_at : List ℕ → Result (Found × List ℕ) ℕ
slash_at past = if begins (λ b. b == 47) past then Ok (f.Comment, drop (prefix_len is_in_line past) past) else Err 1

-- the end of a line, blank text, or a token
unfoldable pub found_at : ℕ → List ℕ → Result (Found × List ℕ) ℕ
found_at b past =
    if is_blank b then Ok (f.Blank, past)
    else (if b == 10 then Ok (f.Line, past)
    else (if b == 47 then slash_at past
    else found_token (token_at b past)))

-- what comes next in a text that has not ended
abbrev pub found_from : List ℕ → Result (Found × List ℕ) ℕ
found_from [] = Err 0
found_from (b ∷ bs) = found_at b bs

-- the token between two rests of a text of a length
abbrev pub token_of : ℕ → ℕ → Kind → List ℕ → List ℕ → Token
token_of size line kind bs past = record { kind = kind; at = size - length bs; len = length bs - length past; line = line }

abbrev pub goes_on : (ℕ → List Token → List ℕ → Lexed) → ℕ → ℕ → List Token → List ℕ → Result (Found × List ℕ) ℕ → Lexed
goes_on more size line before bs (Ok (f.Blank, past)) = more line before past
goes_on more size line before bs (Ok (f.Comment, past)) = more line before past
goes_on more size line before bs (Ok (f.Line, past)) = more (line + 1) before past
goes_on more size line before bs (Ok (f.Token kind, past)) = more line (before ++ token_of size line kind bs past ∷ []) past
goes_on more size line before bs (Err code) = record { tokens = before; fault = Some (record { code = code; line = line }) }

-- the tokens of a text of a length from a line on, behind those before; the number bounds the turns
unfoldable pub lexed_from : ℕ → ℕ → ℕ → List Token → List ℕ → Lexed
lexed_from zero size line before bs = record { tokens = before; fault = None }
lexed_from (suc n) size line before [] = record { tokens = before; fault = None }
lexed_from (suc n) size line before (b ∷ past) = goes_on (lexed_from n size) size line before (b ∷ past) (found_at b past)

unfoldable pub lexed : List ℕ → Lexed
lexed bs = lexed_from (suc (length bs)) (length bs) 1 [] bs

-- ---- what calls answer

abbrev pub SeenOption : {X A : Type 0} → (X → A) → Option X → Option A → Type 0
SeenOption view None found = found ≡ None
SeenOption view (Some x) found = found ≡ Some (view x)

abbrev pub Seen : {X A : Type 0} → (X → A) → Result X ℕ → Result A ℕ → Type 0
Seen view (Ok x) found = found ≡ Ok (view x)
Seen view (Err e) found = found ≡ Err e
