-- What is found on the way to the list of units. No promise of a public call rests on it.
use Rattle.std.specs.Prelude.{◌≡◌, List, ◌++◌, map}
use Rattle.mir_syntax.specs.declared.body.Proj.{Proj}
use Rattle.mir_syntax.specs.declared.body.Place.{Place}
use Rattle.move_paths.specs.declared.search.Search.{Search}

-- the place at the end of a path from where a search stands
abbrev pub place_from : Search → List Proj → Place
place_from s path = record { local = s.local; proj = s.path ++ path }

-- a search that stands where it began has found what lies at the ends of some paths, but for what is left of them
pub record Gathers (old now : Search) (left paths : List (List Proj)) : Type 0 where
  pub same_local : now.local ≡ old.local
  pub same_path : now.path ≡ old.path
  pub found : now.places ++ map (place_from old) left ≡ old.places ++ map (place_from old) paths
