-- The paths of made functions: they are names, and no two of them are the same.
use Rattle.std.proofs.Common.{◌≡◌, ◌<◌, ◌+◌, ◌/◌, ◌%◌, ℕ, zero, suc, Bool, true, false, [], ◌∷◌, codes, None, refl, sym, ap, subst, ◌∙◌, arith}
use Rattle.std.specs.Prelude.{◌==◌, ◌&&◌}
use Rattle.std.specs.Str.{bytes_eq}
use Rattle.std.proofs.lemmas.Nat.{mod_below}
use Rattle.std.proofs.lemmas.Slice.Eq.{bytes_eq-Decides}
use Rattle.mir_text.specs.Bytes.{is_name_byte}
use Rattle.mir_text.specs.Pieces.{word}
use Rattle.mir_text.specs.Symbols.{block_digits, word_token}
use Rattle.mir_text.specs.Words.{word_place}
use Rattle.mir_round_trip.specs.Names.{IsName, one, joined, split, AllNames, IsPath}
use Rattle.crate_gen.specs.Made.{digit, made_path}

-- ---- digits

-- what is needed of a digit
record IsDigit (d : ℕ) : Type 0 where
  in_name : is_name_byte d ≡ true
  no_colon : (d == 58) ≡ false
  no_a : (97 == d) ≡ false
  no_n : (110 == d) ≡ false

digit_at : (r : ℕ) → r < 10 → IsDigit (48 + r)
digit_at zero low = record { in_name = refl; no_colon = refl; no_a = refl; no_n = refl }
digit_at (suc zero) low = record { in_name = refl; no_colon = refl; no_a = refl; no_n = refl }
digit_at (suc (suc zero)) low = record { in_name = refl; no_colon = refl; no_a = refl; no_n = refl }
digit_at (suc (suc (suc zero))) low = record { in_name = refl; no_colon = refl; no_a = refl; no_n = refl }
digit_at (suc (suc (suc (suc zero)))) low = record { in_name = refl; no_colon = refl; no_a = refl; no_n = refl }
digit_at (suc (suc (suc (suc (suc zero))))) low = record { in_name = refl; no_colon = refl; no_a = refl; no_n = refl }
digit_at (suc (suc (suc (suc (suc (suc zero)))))) low = record { in_name = refl; no_colon = refl; no_a = refl; no_n = refl }
digit_at (suc (suc (suc (suc (suc (suc (suc zero))))))) low = record { in_name = refl; no_colon = refl; no_a = refl; no_n = refl }
digit_at (suc (suc (suc (suc (suc (suc (suc (suc zero)))))))) low = record { in_name = refl; no_colon = refl; no_a = refl; no_n = refl }
digit_at (suc (suc (suc (suc (suc (suc (suc (suc (suc zero))))))))) low = record { in_name = refl; no_colon = refl; no_a = refl; no_n = refl }
digit_at (suc (suc (suc (suc (suc (suc (suc (suc (suc (suc r)))))))))) low = absurd (omega arith)

is_digit : (n : ℕ) → IsDigit (digit n)
is_digit n = digit_at (n % 10) (mod_below n 10 (omega arith))

-- ---- one path

and_none : (a : Bool) → (a && false) ≡ false
and_none true = refl
and_none false = refl

-- no reserved word has six bytes with an `f` before
no_word : (a b c d e : ℕ) → IsDigit a → word_place (102 ∷ a ∷ b ∷ c ∷ d ∷ e ∷ []) ≡ None
unfolding word_place
no_word a b c d e is =
    let t = 102 ∷ a ∷ b ∷ c ∷ d ∷ e ∷ [] in
    let two : bytes_eq (codes "f16") t ≡ false = ap (λ (x : Bool). (49 == a) && x) (and_none (54 == b)) ∙ and_none (49 == a) in
    let three : bytes_eq (codes "f32") t ≡ false = ap (λ (x : Bool). (51 == a) && x) (and_none (50 == b)) ∙ and_none (51 == a) in
    let four : bytes_eq (codes "f64") t ≡ false = ap (λ (x : Bool). (54 == a) && x) (and_none (52 == b)) ∙ and_none (54 == a) in
    let five : bytes_eq (codes "f128") t ≡ false = ap (λ (x : Bool). (49 == a) && ((50 == b) && x)) (and_none (56 == c)) ∙ ap (λ (x : Bool). (49 == a) && x) (and_none (50 == b)) ∙ and_none (49 == a) in
    rw (is.no_a, is.no_n, two, three, four, five) refl

named : (a b c d e : ℕ) → IsDigit a → IsDigit b → IsDigit c → IsDigit d → IsDigit e → IsName (102 ∷ a ∷ b ∷ c ∷ d ∷ e ∷ [])
unfolding word_token block_digits
named a b c d e ia ib ic id ie =
    record {
      piece = word 102 (a ∷ b ∷ c ∷ d ∷ e ∷ []);
      spells = refl;
      is = (refl, (ia.in_name, (ib.in_name, (ic.in_name, (id.in_name, (ie.in_name, tt))))));
      ends = λ left clear. clear;
      token = rw (no_word a b c d e ia) refl;
    }

split_is : (a b c d e : ℕ) → IsDigit a → IsDigit b → IsDigit c → IsDigit d → split (102 ∷ a ∷ b ∷ c ∷ d ∷ e ∷ []) ≡ one (102 ∷ a ∷ b ∷ c ∷ d ∷ e ∷ [])
split_is a b c d e ia ib ic id = rw (ia.no_colon, ib.no_colon, ic.no_colon, id.no_colon) refl

pub is_path : (i : ℕ) → IsPath (made_path i)
is_path i =
    let ia = is_digit (i / 10000) in
    let ib = is_digit (i / 1000) in
    let ic = is_digit (i / 100) in
    let id = is_digit (i / 10) in
    let ie = is_digit i in
    let parts = split_is (digit (i / 10000)) (digit (i / 1000)) (digit (i / 100)) (digit (i / 10)) (digit i) ia ib ic id in
    record {
      whole = ap joined parts;
      names = subst AllNames (sym parts) (named (digit (i / 10000)) (digit (i / 1000)) (digit (i / 100)) (digit (i / 10)) (digit i) ia ib ic id ie);
    }

-- ---- two paths

pub same_number : (i j : ℕ) → i < 100000 → j < 100000 → made_path i ≡ made_path j → i ≡ j
same_number i j low low2 e =
    let a : digit (i / 10000) ≡ digit (j / 10000) = grind (arith) in
    let b : digit (i / 1000) ≡ digit (j / 1000) = grind (arith) in
    let c : digit (i / 100) ≡ digit (j / 100) = grind (arith) in
    let d : digit (i / 10) ≡ digit (j / 10) = grind (arith) in
    let u : digit i ≡ digit j = grind (arith) in
    omega (arith, a, b, c, d, u)

pub paths_differ : (i j : ℕ) → i < 100000 → j < 100000 → (i ≡ j → ⊥) → bytes_eq (made_path i) (made_path j) ≡ false
paths_differ i j low low2 apart = go (bytes_eq (made_path i) (made_path j)) refl
  where
    go : (r : Bool) → bytes_eq (made_path i) (made_path j) ≡ r → r ≡ false
    go true e = absurd (apart (same_number i j low low2 ((bytes_eq-Decides (made_path i) (made_path j)).0 e)))
    go false e = refl

pub path_is_itself : (i : ℕ) → bytes_eq (made_path i) (made_path i) ≡ true
path_is_itself i = (bytes_eq-Decides (made_path i) (made_path i)).1 refl
