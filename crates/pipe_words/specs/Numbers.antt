-- Numbers as they stand in words: each has one spelling.
use Rattle.std.specs.Prelude.{◌≡◌, ◌<◌, ◌≤◌, ◌^◌, ◌-◌, ◌%◌, ℕ, Bool, true, false, List, [], ◌∷◌, ◌++◌, map, All, codes, decimal}
use Rattle.std.specs.List.{join_with_byte}
use Rattle.mir_syntax.specs.declared.number.Number.{Number}

-- from -2^127 to 2^128 - 1; zero has no sign
abbrev pub InRange : Bool → ℕ → Type 0
InRange true size = (0 < size) × (size ≤ 2 ^ 127)
InRange false size = size < 2 ^ 128

abbrev pub signed_text : Bool → ℕ → List ℕ
signed_text true size = codes "-" ++ decimal size
signed_text false size = decimal size

-- digits with no superfluous zero, behind a minus where the number is negative
abbrev pub number_text : Number → List ℕ
number_text n = signed_text n.negative n.size

-- numbers with commas between two; `-` for none
abbrev pub numbers_text : List Number → List ℕ
numbers_text [] = codes "-"
numbers_text (n ∷ ns) = join_with_byte 44 (map number_text (n ∷ ns))

-- a word is such a list
pub record IsNumbers (word : List ℕ) (numbers : List Number) : Type 0 where
  pub range : All (λ n. InRange n.negative n.size) numbers
  pub whole : word ≡ numbers_text numbers

-- a word is a number between two, which may be these themselves
pub record IsBetween (least most : ℕ) (word : List ℕ) (n : ℕ) : Type 0 where
  pub low : least ≤ n
  pub high : n ≤ most
  pub whole : word ≡ decimal n

-- the number modulo 2^128
abbrev pub wrapped_size : Bool → ℕ → ℕ
wrapped_size true size = (2 ^ 128 - size) % 2 ^ 128
wrapped_size false size = size

abbrev pub wrapped : Number → ℕ
wrapped n = wrapped_size n.negative n.size
