-- A reach as two rows of bits: which functions are known, and of which the callees were given.
use Rattle.std.specs.Prelude.{◌≡◌, ℕ, ◌<◌, ◌≤◌, Bool, false, not, ◌&&◌, List, [], ◌∷◌, map}
use Rattle.std.specs.List.{range_with_len}
use Rattle.bit_rows.specs.Rows.{flag, stands, HasSize}
use Rattle.call_graph.specs.Graph.{Graph, is_known}

-- the bits of the numbers below n
abbrev pub bits_below : ℕ → (ℕ → Bool) → List Bool
bits_below n p = map p (range_with_len 0 n)

-- known and given functions, once the callees of these were given
abbrev pub rows_of : Graph → ℕ → List ℕ → List (List Bool)
rows_of G g given = bits_below G.functions (is_known G g given) ∷ bits_below G.functions (λ h. stands h given) ∷ []

-- known, and its callees weren't given
abbrev pub is_waiting : List (List Bool) → ℕ → Bool
is_waiting rows h = flag rows 0 h && not (flag rows 1 h)

-- two rows, with nobody waiting below a number
pub record KeepsLow (rows : List (List Bool)) (functions low : ℕ) : Type 0 where
  pub size : HasSize rows 2 functions
  pub low_in : low ≤ functions
  pub none_below : (h : ℕ) → h < low → is_waiting rows h ≡ false
