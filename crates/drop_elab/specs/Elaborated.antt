-- The elaborated body as a function: by the rows that the paths of the body make.
use Rattle.std.specs.Prelude.{ℕ, Bool, true, false, not, List, map, length}
use Rattle.std.specs.List.{range_with_len}
use Rattle.mir_syntax.specs.declared.body.Place.{Place}
use Rattle.mir_syntax.specs.Crate.{TypedBody}
use Rattle.mir_syntax.specs.Shapes.{Shape}
use Rattle.move_paths.specs.Effects.{units_of_body}
use Rattle.move_paths.specs.Decided.{comes}
use Rattle.drop_elab.specs.Elab.{Inits, elab_by}

-- for each block a row with a bit for each unit
abbrev pub rows_by : List Place → ℕ → (ℕ → Place → Bool) → List (List Bool)
rows_by us blocks test = map (λ i. map (test i) us) (range_with_len 0 blocks)

-- on some path the unit is initialised; on none it isn't
abbrev pub inits_of : List Shape → TypedBody → Inits
inits_of D b = record {
  maybe = rows_by (units_of_body D b) (length b.blocks) (λ i u. comes b u i true);
  sure = rows_by (units_of_body D b) (length b.blocks) (λ i u. not (comes b u i false));
}

unfoldable pub elaborated : List Shape → TypedBody → TypedBody
elaborated D b = elab_by D b (inits_of D b)
