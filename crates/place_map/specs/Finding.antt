-- What is found on the way to the list of tracked places. No promise of a public call rests on it.
use Rattle.std.specs.Prelude.{◌≡◌, ◌≤◌, List, ◌++◌, map, length, take}
use Rattle.mir_syntax.specs.declared.body.Proj.{Proj}
use Rattle.mir_syntax.specs.declared.body.Place.{Place}
use Rattle.place_map.specs.declared.scalars.Found.{Found}

-- the place at the end of a way from where a search stands
abbrev pub place_from : Found → List Proj → Place
place_from found ps = record { local = found.local; proj = found.path ++ ps }

abbrev pub places_from : Found → List (List Proj) → List Place
places_from found ways = map (place_from found) ways

-- a search that stands where it began has found what lies at the ends of some ways, as far as there is room, but for what is left of them
pub record Gathers (old now : Found) (left ways : List (List Proj)) : Type 0 where
  pub same_most : now.most ≡ old.most
  pub same_local : now.local ≡ old.local
  pub same_path : now.path ≡ old.path
  pub few : length now.places ≤ old.most
  pub found : take old.most (now.places ++ places_from old left) ≡ take old.most (old.places ++ places_from old ways)
