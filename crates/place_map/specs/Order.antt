-- The order of tracked places: by their locals, and then by their fields, the first that differ. No promise of a public call rests on it.
use Rattle.std.specs.Prelude.{◌≡◌, ℕ, ◌<◌, ◌≤◌, Bool, true, false, nat_lt, if◌then◌else◌, List, [], ◌∷◌, length, Some, IsTrue, slice_get}
use Rattle.mir_syntax.specs.declared.body.Proj.{Proj}
use Rattle.mir_syntax.specs.declared.body.Proj.TheVariants.{Field}
use Rattle.mir_syntax.specs.declared.body.Place.{Place}
use Rattle.mir_syntax.specs.Parts.{is_direct}
use Rattle.place_map.specs.declared.side.Side.{Side}
use Rattle.place_map.specs.declared.side.Side.TheVariants.{Before, Within, After}

-- on which side of two numbers something lies, or on which of the rest where they are equal
abbrev pub by_numbers : ℕ → ℕ → Side → Side
by_numbers i j rest = if nat_lt i j then Before else if nat_lt j i then After else rest

-- a path of fields against another path
abbrev pub path_side : List Proj → List Proj → Side
path_side qs [] = Within
path_side [] (p ∷ ps) = Before
path_side (Field i ∷ qs) (Field j ∷ ps) = by_numbers i j (path_side qs ps)
path_side (q ∷ qs) (p ∷ ps) = Before

-- a tracked place against a place: before it, at or under it, or after it
unfoldable pub place_side : Place → Place → Side
place_side q p = by_numbers q.local p.local (path_side q.proj p.proj)

abbrev pub is_before : Side → Bool
is_before Before = true
is_before _ = false

-- before it, or at or under it
abbrev pub is_until : Side → Bool
is_until After = false
is_until _ = true

-- each is before those after it
pub record IsOrdered (places : List Place) : Type 0 where
  pub direct : (i : ℕ) (q : Place) → slice_get places i ≡ Some q → IsTrue (is_direct q.proj)
  pub rising : (i j : ℕ) (q p : Place) → i < j → slice_get places i ≡ Some q → slice_get places j ≡ Some p → place_side q p ≡ Before
  pub few : length places ≤ 1000
