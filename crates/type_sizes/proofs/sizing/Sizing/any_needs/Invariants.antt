use Rattle.std.proofs.Common.{◌≡◌, IsTrue, length}
use Rattle.std.specs.List.{list_all}
use Rattle.mir_syntax.specs.Tree.{trees_of}
use Rattle.mir_syntax.specs.Ids.{field_below}
use Rattle.mir_syntax.specs.Crate.{crate_of}
use Rattle.mir_syntax.specs.Shapes.{shapes_of, fields_tree, needs_drop}
use Rattle.type_sizes.proofs.sizing.Sizing.any_needs.Given as goal

abbrev pub invariant-fields : goal.invariant-fields
invariant-fields l =
    let p = l.self.program.now in
    IsTrue (list_all (field_below (length p.types)) l.rest)
    × (needs_drop (shapes_of (crate_of p)) (fields_tree (trees_of p.types) l.fields) ≡ needs_drop (shapes_of (crate_of p)) (fields_tree (trees_of p.types) l.rest))

abbrev pub decreases-fields : goal.decreases-fields
decreases-fields l = length l.rest
