-- Lists of numbers as words: cut at the commas they are the texts of the numbers.
use Rattle.std.proofs.Common.{◌≡◌, ◌<◌, ℕ, zero, suc, Bool, true, false, List, [], ◌∷◌, ◌==◌, length, map, get_or, take, drop, ◌-◌, ◌≤◌, sub-one, refl, sym, ap, subst, ◌∙◌, arith, decimal}
use Rattle.std.proofs.lemmas.Bool.Decides.{nat_tests}
use Rattle.std.proofs.lemmas.List.Elements.{All-nil, All-cons}
use Rattle.std.proofs.lemmas.List.Splits.{slice_split_none, slice_split_at, length-slice_split, join_with_byte-slice_split}
use Rattle.std.proofs.Math.Seq.{take-length}
use Rattle.std.specs.List.{All, slice_split, join_with_byte}
use Rattle.std.specs.Char.{is_ascii_digit}
use Rattle.std.specs.Str.{bytes_eq}
use Rattle.mir_syntax.specs.declared.number.Number.{Number}
use Rattle.mir_text.specs.Bytes.{AreAll}
use Rattle.pipe_words.specs.Numbers.{InRange, signed_text, number_text, IsNumbers}
use Rattle.pipe_words.proofs.Tokens.{are_digits, no_minus}

abbrev pub Ranged : Number → Type 0
Ranged n = InRange n.negative n.size

abbrev pub is_comma : ℕ → Bool
is_comma b = b == 44

abbrev pub NoComma : List ℕ → Type 0
NoComma bytes = All (λ b. is_comma b ≡ false) bytes

-- ---- a number

neg_apart : (text rest : List ℕ) (negative : Bool) (size : ℕ) → text ≡ 45 ∷ rest → ((m : ℕ) → InRange true m → rest ≡ decimal m → ⊥) → InRange negative size → text ≡ signed_text negative size → ⊥
neg_apart text rest true size begins none range e = none size range (let both : 45 ∷ rest ≡ 45 ∷ decimal size = sym begins ∙ e in cc)
neg_apart text rest false size begins none range e = no_minus size rest range (sym e ∙ begins)

pub front_is : (xs : List ℕ) (b : ℕ) → 1 ≤ length xs → get_or xs 0 0 ≡ b → xs ≡ b ∷ take (length xs - 1) (drop 1 xs)
front_is [] b some e = absurd (omega arith)
front_is (x ∷ xs) b some e = rw (e, sub-one, take-length xs) refl

-- a text that begins with a minus, before digits that write no number in range, writes none
pub no_number : (text rest : List ℕ) (n : Number) → text ≡ 45 ∷ rest → ((m : ℕ) → InRange true m → rest ≡ decimal m → ⊥) → Ranged n → text ≡ number_text n → ⊥
no_number text rest n begins none range e = neg_apart text rest n.negative n.size begins none range e

-- ---- commas

digits_no_comma : (ds : List ℕ) → AreAll is_ascii_digit ds → NoComma ds
digits_no_comma [] are = All-nil (λ b. is_comma b ≡ false)
digits_no_comma (d ∷ ds) are = All-cons (λ b. is_comma b ≡ false) d ds (let h = are.0 in grind (arith, nat_tests)) (digits_no_comma ds are.1)

signed_no_comma : (negative : Bool) (size : ℕ) → InRange negative size → NoComma (signed_text negative size)
signed_no_comma true size range = All-cons (λ b. is_comma b ≡ false) 45 (decimal size) refl (digits_no_comma (decimal size) (are_digits size (omega arith)))
signed_no_comma false size range = digits_no_comma (decimal size) (are_digits size range)

head_of : (n : Number) (ns : List Number) → All Ranged (n ∷ ns) → Ranged n
head_of n ns all = all 0 n (omega arith)

tail_of : (n : Number) (ns : List Number) → All Ranged (n ∷ ns) → All Ranged ns
tail_of n ns all = λ k d h. all (suc k) d (omega arith)

parts_from : (n : Number) (ns : List Number) → All Ranged (n ∷ ns) → slice_split is_comma (join_with_byte 44 (map number_text (n ∷ ns))) ≡ map number_text (n ∷ ns)
parts_from n [] all = slice_split_none is_comma (number_text n) (signed_no_comma n.negative n.size (head_of n [] all))
parts_from n (m ∷ ms) all =
    slice_split_at is_comma (number_text n) 44 (join_with_byte 44 (map number_text (m ∷ ms))) (signed_no_comma n.negative n.size (head_of n (m ∷ ms) all)) refl
    ∙ ap (λ x. number_text n ∷ x) (parts_from m ms (tail_of n (m ∷ ms) all))

none_at : (ns : List Number) (k : ℕ) (part : List ℕ) → All Ranged ns → k < length (map number_text ns) → part ≡ get_or (map number_text ns) k part → ((n : Number) → Ranged n → part ≡ number_text n → ⊥) → ⊥
none_at [] k part all h e none = omega arith
none_at (n ∷ ns) zero part all h e none = none n (head_of n ns all) e
none_at (n ∷ ns) (suc k) part all h e none = none_at ns k part (tail_of n ns all) (omega arith) e none

-- where a part between commas writes no number, the word is no list
pub no_list : (word : List ℕ) (k : ℕ) (part : List ℕ) → bytes_eq word (45 ∷ []) ≡ false → k < length (slice_split is_comma word) → part ≡ get_or (slice_split is_comma word) k part → ((n : Number) → Ranged n → part ≡ number_text n → ⊥) → (ns : List Number) → IsNumbers word ns → ⊥
no_list word k part other h e none [] is = let w : bytes_eq word (45 ∷ []) ≡ true = rw is.whole refl in absurd cc
no_list word k part other h e none (n ∷ ns) is =
    let parts : slice_split is_comma word ≡ map number_text (n ∷ ns) = ap (slice_split is_comma) is.whole ∙ parts_from n ns is.range in
    none_at (n ∷ ns) k part is.range (subst (λ xs. k < length xs) parts h) (e ∙ ap (λ xs. get_or xs k part) parts) none

-- where the parts between commas are the texts of numbers, the word lists them
pub lists : (word : List ℕ) (ns : List Number) → All Ranged ns → map number_text ns ≡ slice_split is_comma word → IsNumbers word ns
lists word [] range e = let some = length-slice_split is_comma word in let none : 0 ≡ length (slice_split is_comma word) = ap length e in absurd (omega arith)
lists word (n ∷ ns) range e = record { range = range; whole = sym (join_with_byte-slice_split 44 word) ∙ ap (join_with_byte 44) (sym e) }
