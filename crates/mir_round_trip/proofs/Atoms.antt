-- Words, names, numbers, blocks and strings are spelt by one piece each.
use Rattle.mir_round_trip.specs.Names.{IsName, Clear}
use Rattle.std.proofs.Common.{Option, ◌≡◌, ◌<◌, ◌^◌, ℕ, Bool, true, false, ◌==◌, List, [], ◌∷◌, ◌++◌, length, codes, refl, sym, ap, subst, ◌∙◌, arith, rules, append_assoc, inl, inr, is_some, decimal, nat_eq, nat_lt, None}
use Rattle.std.proofs.lemmas.List.{append-nil}
use Rattle.std.proofs.lemmas.Fmt.{decimal_is_IsNumeral_wide}
use Rattle.std.proofs.lemmas.Str.Parse.{IsNumeralModel, numerals_by_value}
use Rattle.std.proofs.lemmas.Bool.Decides.{nat_tests}
use Rattle.std.specs.List.{prefix_len}
use Rattle.std.specs.Char.{is_ascii_digit, is_ascii_alphabetic}
use Rattle.std.specs.Str.Parse.{digits_value}
use Rattle.mir_syntax.specs.declared.types.IntTy.{IntTy}
use Rattle.mir_syntax.specs.declared.types.IntTy.TheVariants as i
use Rattle.mir_text.specs.declared.symbol.Symbol.{Symbol}
use Rattle.mir_text.specs.declared.symbol.Symbol.TheVariants as s
use Rattle.mir_text.specs.Bytes.{AreAll, begins, is_name_byte, suffix_text, suffix_at}
use Rattle.mir_text.specs.Pieces.{minus, comma, Piece, blank, local, number, typed, text, word, mark, spelled, IsContent, Ends, text_of}
use Rattle.mir_text.specs.Symbols.{number_in, Token, symbol, name, numbered, are_digits, word_token, block_digits, token_of}
use Rattle.mir_text.specs.GrammarPlaces.{minus_put}
use Rattle.mir_text.specs.TypeText.{piece, int_name, minus_text}
use Rattle.mir_text.specs.PlaceText.{local_text}
use Rattle.mir_text.specs.TermText.{block_name}
use Rattle.mir_text.proofs.Cut.{if_all, from_some}
use Rattle.mir_text.proofs.PiecesStand.{apart-ends}
use Rattle.mir_round_trip.specs.Known.{Carries, put_known, known_symbols}
use Rattle.mir_round_trip.proofs.Spelling.{KnownAs, Puts, Spelt}

-- a byte of no name is no digit's, and begins no suffix
pub clear-digit : (left : List ℕ) → Clear left → begins is_ascii_digit left ≡ false
clear-digit [] h = refl
clear-digit (b ∷ bs) h = let e : is_name_byte b ≡ false = h in grind (arith, nat_tests)

clear-suffix : (left : List ℕ) → Clear left → suffix_at left ≡ None
unfolding suffix_at
clear-suffix [] h = refl
clear-suffix (b ∷ bs) h =
    let e : is_name_byte b ≡ false = h in
    let k : nat_eq 95 b ≡ false = grind (arith, nat_tests) in
    let none : Option (IntTy × List ℕ) = None in
    rw k (refl {a = none})

-- ---- one piece

-- the symbols of one piece
one-known : (p : Piece) (t : Token) → token_of p ≡ t → KnownAs (p ∷ []) (λ strings. put_known strings t)
one-known p t e strings ground rest = ap (λ x. put_known strings x (known_symbols strings rest)) e

pub word_spelt : (b : ℕ) (bs : List ℕ) (x : Symbol) → is_ascii_alphabetic b ≡ true → is_some (if_all is_name_byte bs) ≡ true → word_token (b ∷ bs) ≡ symbol x
    → Spelt (b ∷ bs) (λ strings rest. x ∷ rest) []
word_spelt b bs x first others token = record {
  pieces = word b bs ∷ [];
  whole = append-nil (b ∷ bs);
  stands = λ left clear. ((first, from_some (if_all is_name_byte bs) others), clear, tt);
  known = one-known (word b bs) (symbol x) token;
  holds = tt;
}

-- ---- names

pub name_spelt : (bytes : List ℕ) → IsName bytes → Spelt bytes (λ strings rest. s.Name (number_in strings bytes) ∷ rest) (bytes ∷ [])
name_spelt bytes is = record {
  pieces = is.piece ∷ [];
  whole = append-nil (spelled is.piece) ∙ is.spells;
  stands = λ left clear. (is.is, is.ends left clear, tt);
  known = one-known is.piece (name bytes) is.token;
  holds = (inl (subst (λ t. Carries t bytes) (sym is.token) refl), tt);
}

-- ---- numbers

own : IsNumeralModel (AreAll is_ascii_digit) (digits_value 10)
own = numerals_by_value _ (search rules)

-- the digits of a number
pub record Digits (n : ℕ) : Type 0 where
  pub first : ℕ
  pub others : List ℕ
  pub whole : first ∷ others ≡ decimal n
  pub are : AreAll is_ascii_digit (first ∷ others)
  pub value : digits_value 10 (first ∷ others) ≡ n

digits-by : (n : ℕ) (ds : List ℕ) → ds ≡ decimal n → 0 < length ds → AreAll is_ascii_digit ds → digits_value 10 ds ≡ n → Digits n
digits-by n [] e some are value = absurd (omega arith)
digits-by n (d ∷ ds) e some are value = record { first = d; others = ds; whole = e; are = are; value = value }

pub digits_of : (n : ℕ) → n < 2 ^ 128 → Digits n
digits_of n small =
    let wide : n < 10 ^ 64 = omega arith in
    let is = decimal_is_IsNumeral_wide n wide in
    digits-by n (decimal n) refl is.0.0 (own.from (decimal n) is.0.1) is.1

pub number_spelt : (n : ℕ) → n < 2 ^ 128 → Spelt (decimal n) (λ strings rest. s.Number n ∷ rest) []
number_spelt n small =
    let d = digits_of n small in
    let below : digits_value 10 (d.first ∷ d.others) < 2 ^ 128 = subst (λ k. k < 2 ^ 128) (sym d.value) small in
    record {
      pieces = number d.first d.others ∷ [];
      whole = append-nil (d.first ∷ d.others) ∙ d.whole;
      stands = λ left clear. ((d.are, below), (clear-digit left clear, clear-suffix left clear), tt);
      known = one-known (number d.first d.others) (symbol (s.Number n)) (ap (λ k. symbol (s.Number k)) d.value);
      holds = tt;
    }

small-symbol : (small : ℕ → Symbol) (large : Symbol) (v n : ℕ) → v ≡ n → n < 2 ^ 32 → numbered small large v ≡ small n
small-symbol small large v n e h =
    let k : nat_lt n (2 ^ 32) ≡ true = grind (arith, nat_tests) in
    rw (e, k) refl

pub local_spelt : (x : ℕ) → x < 2 ^ 32 → Spelt (local_text x) (λ strings rest. s.Local x ∷ rest) []
unfolding local_text piece
local_spelt x small =
    let d = digits_of x (omega arith) in
    record {
      pieces = local d.first d.others ∷ [];
      whole = append-nil (95 ∷ d.first ∷ d.others) ∙ ap (λ l. 95 ∷ l) d.whole;
      stands = λ left clear. (d.are, clear-digit left clear, tt);
      known = one-known (local d.first d.others) (symbol (s.Local x)) (ap symbol (small-symbol s.Local s.LargeLocal _ x d.value small));
      holds = tt;
    }

-- ---- constants

suffix-text : (t : IntTy) → suffix_text t ≡ 95 ∷ int_name t
unfolding int_name
suffix-text i.I8 = refl
suffix-text i.I16 = refl
suffix-text i.I32 = refl
suffix-text i.I64 = refl
suffix-text i.I128 = refl
suffix-text i.Isize = refl
suffix-text i.U8 = refl
suffix-text i.U16 = refl
suffix-text i.U32 = refl
suffix-text i.U64 = refl
suffix-text i.U128 = refl
suffix-text i.Usize = refl

pub typed_spelt : (negative : Bool) (n : ℕ) (t : IntTy) → n < 2 ^ 128
    → Spelt (minus_text negative ++ (decimal n ++ (codes "_" ++ int_name t))) (λ strings rest. minus_put negative (s.Typed t n ∷ rest)) []
unfolding minus_text piece
typed_spelt true n t small =
    let d = digits_of n small in
    let below : digits_value 10 (d.first ∷ d.others) < 2 ^ 128 = subst (λ k. k < 2 ^ 128) (sym d.value) small in
    let p = typed d.first d.others t in
    record {
      pieces = mark minus ∷ p ∷ [];
      whole = ap (λ l. 45 ∷ l) (append-nil (d.first ∷ d.others ++ suffix_text t) ∙ ap (λ l. (d.first ∷ d.others) ++ l) (suffix-text t) ∙ ap (λ l. l ++ 95 ∷ int_name t) d.whole);
      stands = λ left clear. (tt, subst (Ends (mark minus)) (sym (append_assoc (spelled p) [] left)) (apart-ends (mark minus) p left refl (d.are, below)), ((d.are, below), tt, tt));
      known = λ strings ground rest. ap (λ k. s.Minus ∷ s.Typed t k ∷ known_symbols strings rest) d.value;
      holds = tt;
    }
typed_spelt false n t small =
    let d = digits_of n small in
    let below : digits_value 10 (d.first ∷ d.others) < 2 ^ 128 = subst (λ k. k < 2 ^ 128) (sym d.value) small in
    record {
      pieces = typed d.first d.others t ∷ [];
      whole = append-nil (d.first ∷ d.others ++ suffix_text t) ∙ ap (λ l. (d.first ∷ d.others) ++ l) (suffix-text t) ∙ ap (λ l. l ++ 95 ∷ int_name t) d.whole;
      stands = λ left clear. ((d.are, below), tt, tt);
      known = λ strings ground rest. ap (λ k. s.Typed t k ∷ known_symbols strings rest) d.value;
      holds = tt;
    }

-- ---- blocks

name-digits : (ds : List ℕ) → AreAll is_ascii_digit ds → AreAll is_name_byte ds
name-digits [] h = tt
name-digits (d ∷ ds) h = let e : is_ascii_digit d ≡ true = h.0 in (grind (arith, nat_tests), name-digits ds h.1)

all-len : (ds : List ℕ) → AreAll is_ascii_digit ds → prefix_len is_ascii_digit ds ≡ length ds
all-len [] h = refl
all-len (d ∷ ds) h = let e = all-len ds h.1 in rw h.0 (omega (arith, e))

same-eq : (n : ℕ) → (n == n) ≡ true
same-eq n = grind (arith, nat_tests)

all-digits : (d : ℕ) (ds : List ℕ) → AreAll is_ascii_digit (d ∷ ds) → are_digits (d ∷ ds) ≡ true
all-digits d ds h = rw (all-len (d ∷ ds) h, h.0) (same-eq (length (d ∷ ds)))

block-token : (d : ℕ) (ds : List ℕ) → AreAll is_ascii_digit (d ∷ ds) → word_token (98 ∷ 98 ∷ d ∷ ds) ≡ symbol (numbered s.Block s.LargeBlock (digits_value 10 (d ∷ ds)))
unfolding word_token block_digits
block-token d ds h = rw (all-digits d ds h) refl

pub block_spelt : (b : ℕ) → b < 2 ^ 32 → Spelt (block_name b) (λ strings rest. s.Block b ∷ rest) []
unfolding block_name piece
block_spelt b small =
    let d = digits_of b (omega arith) in
    record {
      pieces = word 98 (98 ∷ d.first ∷ d.others) ∷ [];
      whole = append-nil (98 ∷ 98 ∷ d.first ∷ d.others) ∙ ap (λ l. 98 ∷ 98 ∷ l) d.whole;
      stands = λ left clear. ((refl, (refl, name-digits (d.first ∷ d.others) d.are)), clear, tt);
      known = one-known (word 98 (98 ∷ d.first ∷ d.others)) (symbol (s.Block b)) (block-token d.first d.others d.are ∙ ap symbol (small-symbol s.Block s.LargeBlock _ b d.value small));
      holds = tt;
    }

-- ---- strings

-- a comma, a string and what follows
pub string_spelt : (bytes : List ℕ) {u : List ℕ} {g : Puts} {ms : List (List ℕ)} → IsContent false bytes → Spelt u g ms
    → Spelt (codes ", \"" ++ (bytes ++ (codes "\"" ++ u))) (λ strings rest. s.Comma ∷ s.Text (number_in strings bytes) ∷ g strings rest) (bytes ∷ [])
string_spelt bytes is b = record {
  pieces = mark comma ∷ blank 32 ∷ text bytes ∷ b.pieces;
  whole = ap (λ l. 44 ∷ 32 ∷ 34 ∷ l) (append_assoc bytes (34 ∷ []) (text_of b.pieces) ∙ ap (λ l. bytes ++ 34 ∷ l) b.whole);
  stands = λ left clear. (tt, tt, (refl, tt, (is, tt, b.stands left clear)));
  known = λ strings ground rest. ap (λ l. s.Comma ∷ s.Text (number_in strings bytes) ∷ l) (b.known strings ground rest);
  holds = (inr (inr (inl refl)), tt);
}
