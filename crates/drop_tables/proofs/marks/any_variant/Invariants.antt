use Rattle.std.proofs.Common.{◌≡◌, length}
use Rattle.std.specs.List.{list_any}
use Rattle.drop_tables.specs.Marks.{variant_marked}
use Rattle.drop_tables.proofs.marks.any_variant.Given as goal

abbrev pub invariant-variants : goal.invariant-variants
invariant-variants l = list_any (variant_marked l.marks) l.variants ≡ list_any (variant_marked l.marks) l.rest

abbrev pub decreases-variants : goal.decreases-variants
decreases-variants l = length l.rest
