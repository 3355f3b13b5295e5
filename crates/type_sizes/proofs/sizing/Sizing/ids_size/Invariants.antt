use Rattle.std.proofs.Common.{ℕ, ◌+◌, ◌<◌, ◌≤◌, IsTrue, length}
use Rattle.mir_syntax.specs.declared.types.TyId.{TyId}
use Rattle.mir_syntax.specs.Tree.{at_id, at_ids, trees_of}
use Rattle.mir_syntax.specs.Table.{all_below}
use Rattle.mir_syntax.specs.Crate.{crate_of}
use Rattle.mir_syntax.specs.Shapes.{shapes_of}
use Rattle.type_sizes.specs.UpTo.{Tells}
use Rattle.type_sizes.specs.Measures.{leaf, most, size_by, told}
use Rattle.type_sizes.proofs.Sums.{Summing}
use Rattle.type_sizes.proofs.sizing.Sizing.ids_size.Given as goal

abbrev pub invariant-ids : goal.invariant-ids
invariant-ids l =
    let m = l.self.measure in
    let p = l.self.program.now in
    let D = shapes_of (crate_of p) in
    let trees = trees_of p.types in
    IsTrue (all_below (length l.known) l.rest) × (l.total ≤ most m)
    × ((g : ℕ → ℕ) → ((id : TyId) → id.0 < length l.known → Tells (most m) (told m l.known id.0) (size_by D m g (at_id trees id)))
    → Summing (most m) l.total (size_by D m g (at_ids trees l.rest)) (size_by D m g (at_ids trees l.ids) + leaf m))

abbrev pub decreases-ids : goal.decreases-ids
decreases-ids l = length l.rest
