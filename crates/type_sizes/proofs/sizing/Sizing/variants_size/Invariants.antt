use Rattle.std.proofs.Common.{ℕ, ◌<◌, ◌≤◌, IsTrue, length, map, sum_by}
use Rattle.mir_syntax.specs.declared.types.TyId.{TyId}
use Rattle.mir_syntax.specs.Tree.{at_id, trees_of}
use Rattle.std.specs.List.{list_all}
use Rattle.mir_syntax.specs.Ids.{variant_below}
use Rattle.mir_syntax.specs.Crate.{crate_of, variant_of}
use Rattle.mir_syntax.specs.Shapes.{shapes_of, fields_tuple}
use Rattle.type_sizes.specs.UpTo.{Tells}
use Rattle.type_sizes.specs.Measures.{most, variant_size, size_by, told}
use Rattle.type_sizes.proofs.Sums.{Summing}
use Rattle.type_sizes.proofs.sizing.Sizing.variants_size.Given as goal

abbrev pub invariant-variants : goal.invariant-variants
invariant-variants l =
    let m = l.self.measure in
    let p = l.self.program.now in
    let D = shapes_of (crate_of p) in
    let trees = trees_of p.types in
    IsTrue (list_all (variant_below (length l.known)) l.rest) × (l.total ≤ most m)
    × ((g : ℕ → ℕ) → ((id : TyId) → id.0 < length l.known → Tells (most m) (told m l.known id.0) (size_by D m g (at_id trees id)))
    → Summing (most m) l.total (sum_by (variant_size D m g) (map fields_tuple (map (variant_of trees) l.rest))) (sum_by (variant_size D m g) (map fields_tuple (map (variant_of trees) l.variants))))

abbrev pub decreases-variants : goal.decreases-variants
decreases-variants l = length l.rest
