-- Rows of bits as they are kept: in words of 64 bits, one row after another.
use Rattle.std.specs.Prelude.{◌≡◌, ℕ, ◌+◌, ◌*◌, ◌/◌, ◌%◌, ◌^◌, ◌<◌, ◌≤◌, ◌≢◌, ◌⊎◌, Bool, true, false, nat_eq, List, map, length, get_or, bit_and, bit_or}
use Rattle.std.specs.List.{range_with_len}
use Rattle.std.specs.Int.{bit_at, bit_not, w64}
use Rattle.bit_rows.specs.declared.kernel.Mix.{Mix}
use Rattle.bit_rows.specs.declared.kernel.Mix.TheVariants.{Or, Copy, Minus}

abbrev pub word_bit : ℕ → ℕ → Bool
word_bit word k = nat_eq (bit_at word k) 1

-- bit k of row r
abbrev pub kept_flag : List ℕ → ℕ → ℕ → ℕ → Bool
kept_flag words width r k = word_bit (get_or words (r * width + k / 64) 0) (k % 64)

-- the rows of bits that a function names
abbrev pub line_of : ℕ → (ℕ → Bool) → List Bool
line_of bits f = map f (range_with_len 0 bits)

abbrev pub table : ℕ → ℕ → (ℕ → ℕ → Bool) → List (List Bool)
table rows bits f = map (λ r. line_of bits (f r)) (range_with_len 0 rows)

-- each is a word of 64 bits
abbrev pub AllFit : List ℕ → Type 0
AllFit words = (i : ℕ) → get_or words i 0 < 2 ^ 64

-- each row has as many words as it needs, and no bit past its end is set
pub record IsKept (rows bits width : ℕ) (words : List ℕ) : Type 0 where
  pub wide : width ≡ (bits + 63) / 64
  pub small : width ≤ 67108864
  pub long : length words ≡ rows * width
  pub fit : AllFit words
  pub blank : (r k : ℕ) → r < rows → bits ≤ k → k < 64 * width → kept_flag words width r k ≡ false

-- what is made of a word and one of another row
abbrev pub mixed_word : Mix → ℕ → ℕ → ℕ
mixed_word Or a b = bit_or a b
mixed_word Copy a b = b
mixed_word Minus a b = bit_and a (bit_not w64 b)

-- so many words, from a place on, were mixed with those of another list from a place on; the others are as they were
pub record Mixed (mix : Mix) (old new : List ℕ) (into : ℕ) (others : List ℕ) (from count : ℕ) (changed : Bool) : Type 0 where
  pub mixed : (i : ℕ) → i < count → get_or new (into + i) 0 ≡ mixed_word mix (get_or old (into + i) 0) (get_or others (from + i) 0)
  pub rest : (j : ℕ) → (j < into) ⊎ (into + count ≤ j) → get_or new j 0 ≡ get_or old j 0
  pub long : length new ≡ length old
  pub yes : changed ≡ true → (i : ℕ) × (i < count) × (get_or new (into + i) 0 ≢ get_or old (into + i) 0)
  pub no : changed ≡ false → (i : ℕ) → i < count → get_or new (into + i) 0 ≡ get_or old (into + i) 0
