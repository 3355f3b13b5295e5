-- Numbers that follow one another, and what is drawn of them. It is a linear congruential generator with the factor and the summand of the
-- example of `rand` in the C standard.
use Rattle.std.specs.Prelude.{ℕ, zero, suc, ◌+◌, ◌*◌, ◌/◌, ◌%◌, List, [], ◌∷◌}

-- the number that comes after another
abbrev pub next : ℕ → ℕ
next x = (x * 1103515245 + 12345) % 2147483648

-- what is drawn below a bound where a number has been reached: its upper half decides
abbrev pub drawn : ℕ → ℕ → ℕ
drawn below x = (next x / 65536) % below

-- so many draws below a bound
unfoldable pub draws : ℕ → ℕ → ℕ → List ℕ
draws below zero x = []
draws below (suc count) x = drawn below x ∷ draws below count (next x)
