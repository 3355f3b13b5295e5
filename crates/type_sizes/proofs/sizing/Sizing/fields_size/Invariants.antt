use Rattle.std.proofs.Common.{ℕ, ◌+◌, ◌<◌, ◌≤◌, IsTrue, length}
use Rattle.mir_syntax.specs.declared.types.TyId.{TyId}
use Rattle.mir_syntax.specs.Tree.{at_id, trees_of}
use Rattle.std.specs.List.{list_all}
use Rattle.mir_syntax.specs.Ids.{field_below}
use Rattle.mir_syntax.specs.Crate.{crate_of}
use Rattle.mir_syntax.specs.Shapes.{shapes_of, fields_tree}
use Rattle.type_sizes.specs.UpTo.{Tells}
use Rattle.type_sizes.specs.Measures.{leaf, most, size_by, told}
use Rattle.type_sizes.proofs.Sums.{Summing}
use Rattle.type_sizes.proofs.sizing.Sizing.fields_size.Given as goal

abbrev pub invariant-fields : goal.invariant-fields
invariant-fields l =
    let m = l.self.measure in
    let p = l.self.program.now in
    let D = shapes_of (crate_of p) in
    let trees = trees_of p.types in
    IsTrue (list_all (field_below (length l.known)) l.rest) × (l.total ≤ most m)
    × ((g : ℕ → ℕ) → ((id : TyId) → id.0 < length l.known → Tells (most m) (told m l.known id.0) (size_by D m g (at_id trees id)))
    → Summing (most m) l.total (size_by D m g (fields_tree trees l.rest)) (size_by D m g (fields_tree trees l.fields) + leaf m))

abbrev pub decreases-fields : goal.decreases-fields
decreases-fields l = length l.rest
