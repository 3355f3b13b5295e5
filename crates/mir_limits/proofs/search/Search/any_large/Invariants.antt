use Rattle.std.proofs.Common.{◌≡◌, IsTrue, length, map}
use Rattle.std.specs.List.{list_any}
use Rattle.mir_syntax.specs.Tree.{at_id, trees_of}
use Rattle.mir_syntax.specs.Table.{all_below}
use Rattle.mir_syntax.specs.Crate.{crate_of}
use Rattle.mir_syntax.specs.Shapes.{shapes_of}
use Rattle.mir_rules.specs.Limits.{is_large_type}
use Rattle.mir_limits.proofs.search.Search.any_large.Given as goal

abbrev pub invariant-ids : goal.invariant-ids
invariant-ids l =
    let p = l.self.program.now in
    let is_large = is_large_type (shapes_of (crate_of p)) in
    IsTrue (all_below (length p.types) l.rest) × (list_any is_large (map (at_id (trees_of p.types)) l.ids) ≡ list_any is_large (map (at_id (trees_of p.types)) l.rest))

abbrev pub decreases-ids : goal.decreases-ids
decreases-ids l = length l.rest
