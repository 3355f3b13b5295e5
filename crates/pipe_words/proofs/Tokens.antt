-- Names and numbers as the scanner finds them at the front of a text.
use Rattle.std.proofs.Common.{◌≡◌, ◌≢◌, ◌<◌, ◌^◌, ℕ, Bool, true, false, List, [], ◌∷◌, ◌++◌, length, Result, Ok, Option, Some, None, refl, sym, ap, subst, ◌∙◌, arith, rules, decimal, nat_lt}
use Rattle.std.proofs.lemmas.List.{append-nil}
use Rattle.std.proofs.lemmas.Fmt.{decimal_is_IsNumeral_wide}
use Rattle.std.proofs.lemmas.Str.Parse.{IsNumeralModel, numerals_by_value}
use Rattle.std.specs.Char.{is_ascii_digit}
use Rattle.std.specs.Str.Parse.{digits_value}
use Rattle.mir_text.specs.Bytes.{AreAll, begins, is_name_byte, suffix_at}
use Rattle.mir_text.specs.Pieces.{Piece, blank, line, comment, local, number, typed, text, word, under, mark, spelled, Ends}
use Rattle.mir_text.specs.Symbols.{name, token_of, word_token, block_or_word, reserved_or_name, block_digits}
use Rattle.mir_text.specs.Words.{word_place}
use Rattle.mir_lex.specs.declared.kind.Kind.{Kind}
use Rattle.mir_lex.specs.declared.kind.Kind.TheVariants as k
use Rattle.mir_lex.specs.declared.scan.Found.{Found}
use Rattle.mir_lex.specs.declared.scan.Found.TheVariants as f
use Rattle.mir_lex.specs.Tokens.{kind_by, kind_of, block_of, local_of, number_of, numbered_by, found_from}
use Rattle.mir_lex.specs.Pieces.{found_of, IsFound}
use Rattle.mir_lex.proofs.PiecesFound.{piece-found}
use Rattle.pipe_words.specs.Paths.{IsName}
use Rattle.pipe_words.specs.Tokens.{is_name_found}

-- ---- a name's kind

kind_by_place : (bytes : List ℕ) (place : Option ℕ) → reserved_or_name bytes place ≡ name bytes → kind_by None place ≡ k.Name
kind_by_place bytes None h = refl
kind_by_place bytes (Some p) h = absurd cc

kind_by_digits : (bytes : List ℕ) (ds : Option (List ℕ)) → block_or_word bytes ds ≡ name bytes → kind_by ds (word_place bytes) ≡ k.Name
kind_by_digits bytes None h = kind_by_place bytes (word_place bytes) h
kind_by_digits bytes (Some ds) h = absurd cc

kind-name : (bytes : List ℕ) → word_token bytes ≡ name bytes → kind_of bytes ≡ k.Name
unfolding word_token kind_of
kind-name bytes h = kind_by_digits bytes (block_digits bytes) h

token_by_place : (bytes : List ℕ) (place : Option ℕ) → kind_by None place ≡ k.Name → reserved_or_name bytes place ≡ name bytes
token_by_place bytes None h = refl
token_by_place bytes (Some p) h = absurd cc

small_or_large : (kind : ℕ → Kind) (n : ℕ) (b : Bool) → ((m : ℕ) → kind m ≢ k.Name) → nat_lt n (2 ^ 32) ≡ b → numbered_by kind (Some n) ≢ k.Name
small_or_large kind n true apart e h = apart n (rw e at h)
small_or_large kind n false apart e h = let g : k.Large ≡ k.Name = rw e at h in absurd cc

no_name : (kind : ℕ → Kind) (n : Option ℕ) → ((m : ℕ) → kind m ≢ k.Name) → numbered_by kind n ≢ k.Name
no_name kind None apart h = absurd cc
no_name kind (Some n) apart h = small_or_large kind n (nat_lt n (2 ^ 32)) apart refl h

block-apart : (m : ℕ) → k.Block m ≢ k.Name
block-apart m h = absurd cc

local-apart : (m : ℕ) → k.Local m ≢ k.Name
local-apart m h = absurd cc

no_block : (ds : List ℕ) → block_of ds ≢ k.Name
unfolding block_of
no_block ds h = no_name k.Block (number_of ds) block-apart h

no_local : (ds : List ℕ) → local_of ds ≢ k.Name
unfolding local_of
no_local ds h = no_name k.Local (number_of ds) local-apart h

token_by_digits : (bytes : List ℕ) (ds : Option (List ℕ)) → kind_by ds (word_place bytes) ≡ k.Name → block_or_word bytes ds ≡ name bytes
token_by_digits bytes None h = token_by_place bytes (word_place bytes) h
token_by_digits bytes (Some ds) h = absurd (no_block ds h)

token-name : (bytes : List ℕ) → kind_of bytes ≡ k.Name → word_token bytes ≡ name bytes
unfolding word_token kind_of
token-name bytes h = token_by_digits bytes (block_digits bytes) h

-- ---- names

-- a piece that means its own bytes as a name is found as one, before what is no part of it
record FoundName (p : Piece) (rest : List ℕ) : Type 0 where
  found : found_of p ≡ f.Token k.Name
  ends : Ends p rest

own_bytes : (b : ℕ) (bs bytes : List ℕ) → b ∷ bs ≡ bytes → word_token (b ∷ bs) ≡ name bytes → word_token (b ∷ bs) ≡ name (b ∷ bs)
own_bytes b bs bytes e h = h ∙ ap name (sym e)

found_name : (p : Piece) (bytes rest : List ℕ) → token_of p ≡ name bytes → spelled p ≡ bytes → begins is_name_byte rest ≡ false → FoundName p rest
found_name (blank b) bytes rest h e n = absurd cc
found_name line bytes rest h e n = absurd cc
found_name (comment bs) bytes rest h e n = absurd cc
found_name (local d ds) bytes rest h e n = absurd cc
found_name (number d ds) bytes rest h e n = absurd cc
found_name (typed d ds t) bytes rest h e n = absurd cc
found_name (text bs) bytes rest h e n = absurd cc
found_name (word b bs) bytes rest h e n = record { found = ap f.Token (kind-name (b ∷ bs) (own_bytes b bs bytes e h)); ends = n }
found_name (under b bs) bytes rest h e n = record { found = ap f.Token (kind-name (95 ∷ b ∷ bs) (own_bytes 95 (b ∷ bs) bytes e h)); ends = n }
found_name (mark m) bytes rest h e n = absurd cc

-- a name at the front of a text is found, where what follows is no part of it
pub name_found : (bytes n rest : List ℕ) → IsName n → begins is_name_byte rest ≡ false → bytes ≡ n ++ rest → found_from bytes ≡ Ok (f.Token k.Name, rest)
name_found bytes n rest is clear e =
    let by = found_name is.piece n rest is.means is.whole clear in
    let front : bytes ≡ spelled is.piece ++ rest = e ∙ ap (λ x. x ++ rest) (sym is.whole) in
    ap found_from front ∙ piece-found is.piece rest is.is by.ends ∙ ap (λ x. Ok (x, rest)) by.found

means_name : (p : Piece) → found_of p ≡ f.Token k.Name → token_of p ≡ name (spelled p)
means_name (blank b) h = absurd cc
means_name line h = absurd cc
means_name (comment bs) h = absurd cc
means_name (local d ds) h = let e : local_of (d ∷ ds) ≡ k.Name = cc in absurd (no_local (d ∷ ds) e)
means_name (number d ds) h = absurd cc
means_name (typed d ds t) h = absurd cc
means_name (text bs) h = absurd cc
means_name (word b bs) h = let e : kind_of (b ∷ bs) ≡ k.Name = cc in token-name (b ∷ bs) e
means_name (under b bs) h = let e : kind_of (95 ∷ b ∷ bs) ≡ k.Name = cc in token-name (95 ∷ b ∷ bs) e
means_name (mark m) h = absurd cc

is_token_name : (found : Found) → is_name_found found ≡ true → found ≡ f.Token k.Name
is_token_name (f.Token k.Name) h = refl
is_token_name (f.Token (k.Local n)) h = absurd cc
is_token_name (f.Token (k.Block n)) h = absurd cc
is_token_name (f.Token (k.Number n t)) h = absurd cc
is_token_name (f.Token k.Text) h = absurd cc
is_token_name (f.Token (k.Word n)) h = absurd cc
is_token_name (f.Token (k.Sign n)) h = absurd cc
is_token_name (f.Token k.Large) h = absurd cc
is_token_name f.Blank h = absurd cc
is_token_name f.Line h = absurd cc
is_token_name f.Comment h = absurd cc

-- what is found as a name at the front of a text is one
pub name_sound : (bytes : List ℕ) (found : Found) (rest : List ℕ) → IsFound bytes found rest → is_name_found found ≡ true → (n : List ℕ) × IsName n × (bytes ≡ n ++ rest)
name_sound bytes found rest is h =
    let means = means_name is.piece (is.found ∙ is_token_name found h) in
    (spelled is.piece, record { piece = is.piece; is = is.is; whole = refl; means = means }, is.whole)

-- ---- numbers

own : IsNumeralModel (AreAll is_ascii_digit) (digits_value 10)
own = numerals_by_value _ (search rules)

piece_of : (n : ℕ) (ds : List ℕ) → 0 < length ds → AreAll is_ascii_digit ds → digits_value 10 ds ≡ n → n < 2 ^ 128 → found_from ds ≡ Ok (f.Token (k.Number n None), [])
unfolding suffix_at
piece_of n [] some are value small = absurd (omega arith)
piece_of n (d ∷ ds) some are value small =
    let below : digits_value 10 (d ∷ ds) < 2 ^ 128 = subst (λ m. m < 2 ^ 128) (sym value) small in
    ap found_from (sym (append-nil (d ∷ ds))) ∙ piece-found (number d ds) [] (are, below) (refl, refl) ∙ ap (λ m. Ok (f.Token (k.Number m None), [])) value

-- a number that its digits write is found
pub digits_found : (bytes : List ℕ) (n : ℕ) → n < 2 ^ 128 → bytes ≡ decimal n → found_from bytes ≡ Ok (f.Token (k.Number n None), [])
digits_found bytes n small e =
    let is = decimal_is_IsNumeral_wide n (omega arith) in
    ap found_from e ∙ piece_of n (decimal n) is.0.0 (own.from (decimal n) is.0.1) is.1 small

first_digit : (ds : List ℕ) (b : ℕ) (rest : List ℕ) → AreAll is_ascii_digit ds → ds ≡ b ∷ rest → is_ascii_digit b ≡ true
first_digit [] b rest are e = absurd cc
first_digit (d ∷ ds) b rest are e = let h : d ≡ b = cc in rw (← h) are.0

-- no digits begin with a minus
pub no_minus : (n : ℕ) (rest : List ℕ) → n < 2 ^ 128 → decimal n ≡ 45 ∷ rest → ⊥
no_minus n rest small e =
    let is = decimal_is_IsNumeral_wide n (omega arith) in
    let h : is_ascii_digit 45 ≡ true = first_digit (decimal n) 45 rest (own.from (decimal n) is.0.1) e in
    absurd cc

-- what was found at the front of a text that begins with a name is that name
pub found_is : (bytes : List ℕ) (found : Found) (rest n past : List ℕ) → found_from bytes ≡ Ok (found, rest) → IsName n → begins is_name_byte past ≡ false → bytes ≡ n ++ past → (is_name_found found ≡ true) × (rest ≡ past)
found_is bytes found rest n past read is clear e =
    let both : ◌≡◌ {A = Result (Found × List ℕ) ℕ} (Ok (found, rest)) (Ok (f.Token k.Name, past)) = sym read ∙ name_found bytes n past is clear e in
    let pair : ◌≡◌ {A = Found × List ℕ} (found, rest) (f.Token k.Name, past) = cc in
    let kind : found ≡ f.Token k.Name = ap (λ p. p.0) pair in
    (rw kind refl, ap (λ p. p.1) pair)

pub some_digits : (n : ℕ) → n < 2 ^ 128 → 0 < length (decimal n)
some_digits n small = (decimal_is_IsNumeral_wide n (omega arith)).0.0

pub are_digits : (n : ℕ) → n < 2 ^ 128 → AreAll is_ascii_digit (decimal n)
are_digits n small = own.from (decimal n) (decimal_is_IsNumeral_wide n (omega arith)).0.1

-- a text writes one number
pub same_number : (bytes : List ℕ) (m n : ℕ) → m < 2 ^ 128 → n < 2 ^ 128 → bytes ≡ decimal m → bytes ≡ decimal n → m ≡ n
same_number bytes m n small_m small_n e g =
    sym (decimal_is_IsNumeral_wide m (omega arith)).1 ∙ ap (λ x. digits_value 10 x) (sym e ∙ g) ∙ (decimal_is_IsNumeral_wide n (omega arith)).1
