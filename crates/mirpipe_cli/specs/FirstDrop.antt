-- What the passes of the command `seq` are not made for yet: `drop` terminators.
use Rattle.std.specs.Prelude.{ℕ, List, [], ◌∷◌, Option, if◌then◌else◌, option_map, slice_get}
use Rattle.mir_syntax.specs.declared.lines.Lines.{Lines}
use Rattle.mir_syntax.specs.Crate.{TypedBlock, TypedFunction, Crate}
use Rattle.mir_rules.specs.Broken.{Spot, terminator, gather}
use Rattle.mir_rules.specs.Faults.{line_at}
use Rattle.mir_rules.specs.Drops.{is_drop}

-- the terminator of a block, where it is a `drop`
abbrev pub drop_spot : ℕ → ℕ → TypedBlock → List Spot
drop_spot f block k = if is_drop k.term then terminator f block ∷ [] else []

abbrev pub drop_spots : ℕ → TypedFunction → List Spot
drop_spots f g = gather (drop_spot f) 0 g.body.blocks

-- the `drop` terminators of a crate, in order
unfoldable pub drops : Crate → List Spot
drops C = gather drop_spots 0 C.functions

-- the line of the first one
unfoldable pub first_drop : Lines → Crate → Option ℕ
first_drop lines C = option_map (line_at lines) (slice_get (drops C) 0)
