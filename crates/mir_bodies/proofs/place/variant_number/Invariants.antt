use Rattle.std.proofs.Common.{◌≡◌, ◌+◌, map, length}
use Rattle.mir_text.specs.Words.{place_from}
use Rattle.mir_bodies.specs.Places.{name_of}
use Rattle.mir_bodies.proofs.place.variant_number.Given as goal

abbrev pub invariant-variants : goal.invariant-variants
invariant-variants l = record {
  found : place_from l.number (map name_of l.left) l.name ≡ place_from 0 (map name_of l.variants) l.name;
  count : l.number + length l.left ≡ length l.variants;
}

abbrev pub decreases-variants : goal.decreases-variants
decreases-variants l = length l.left
