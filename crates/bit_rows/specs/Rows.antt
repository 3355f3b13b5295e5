-- Rows of bits, as lists of bools.
use Rattle.std.specs.Prelude.{◌≡◌, ℕ, ◌<◌, Bool, true, false, not, ◌==◌, ◌&&◌, ◌||◌, List, [], ◌∷◌, length, get_or, set}
use Rattle.std.specs.List.{list_any}
use Rattle.bit_rows.specs.declared.kernel.Mix.{Mix}
use Rattle.bit_rows.specs.declared.kernel.Mix.TheVariants.{Or, Copy, Minus}

-- the row of a number
abbrev pub row_at : List (List Bool) → ℕ → List Bool
row_at rows r = get_or rows r []

-- the bit of a number in the row of a number; false past the end
abbrev pub flag : List (List Bool) → ℕ → ℕ → Bool
flag rows r k = get_or (row_at rows r) k false

-- so many rows of so many bits
pub record HasSize (rows : List (List Bool)) (count bits : ℕ) : Type 0 where
  pub count_is : length rows ≡ count
  pub bits_is : (r : ℕ) → r < count → length (row_at rows r) ≡ bits

-- a row after the bits of some numbers were set; a number past its end sets none
abbrev pub marked : List Bool → List ℕ → List Bool
marked row [] = row
marked row (x ∷ xs) = marked (set row x true) xs

-- whether a number stands in a list
abbrev pub stands : ℕ → List ℕ → Bool
stands x xs = list_any (λ y. x == y) xs

-- true where the first is and the second isn't
abbrev pub and_not : Bool → Bool → Bool
and_not a b = a && not b

-- what is made of a bit and one of another row
abbrev pub mixed_bit : Mix → Bool → Bool → Bool
mixed_bit Or a b = a || b
mixed_bit Copy a b = b
mixed_bit Minus a b = and_not a b
