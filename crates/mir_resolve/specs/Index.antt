-- A list of texts in which one may stand twice, kept as the different ones, the first place of each, and the number of each text in turn.
use Rattle.std.specs.Prelude.{◌≡◌, ℕ, ◌≤◌, ◌^◌, Bool, nat_lt, IsTrue, List, map, length, slice_get, Option}
use Rattle.std.specs.List.{list_all}
use Rattle.mir_syntax.specs.Shapes.{◌>>=◌}
use Rattle.mir_text.specs.Words.{place_in}
use Rattle.mir_text.specs.Names.{string_at}

abbrev pub texts_of : List (List ℕ) → List ℕ → List (List ℕ)
texts_of different numbers = map (string_at different) numbers

abbrev pub first_place : List (List ℕ) → List ℕ → List ℕ → Option ℕ
first_place different firsts text = place_in different text >>= slice_get firsts

abbrev pub is_below : ℕ → ℕ → Bool
is_below n k = nat_lt k n

-- the first places are those of all texts
pub record IsIndexed (different : List (List ℕ)) (firsts numbers : List ℕ) : Type 0 where
  pub found : (text : List ℕ) → first_place different firsts text ≡ place_in (texts_of different numbers) text
  pub paired : length firsts ≡ length different
  pub small : length numbers ≤ 2 ^ 30
  pub inside : IsTrue (list_all (is_below (length different)) numbers)
