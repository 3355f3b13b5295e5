use Rattle.std.proofs.Common.{min, ◌*◌, ◌+◌, ◌^◌, drop}
use Rattle.mir_syntax.specs.Tree.{at_ids, trees_of}
use Rattle.mir_syntax.specs.Crate.{crate_of}
use Rattle.mir_syntax.specs.Shapes.{shapes_of, fields_tree}
use Rattle.mir_rules.specs.Weights.{units_from, units_def}
use Rattle.move_paths.specs.Finding.{Gathers}
use Rattle.move_paths.proofs.search.+find.Given as goal

abbrev pub decreases-find_units : goal.decreases-find_units
decreases-find_units l = 2 ^ 36 * l.depth + (4 * min l.id.0 (2 ^ 32) + 3)

abbrev pub decreases-find_in_tuple : goal.decreases-find_in_tuple
decreases-find_in_tuple l = 2 ^ 36 * l.depth + (4 * l.bound + 2)

abbrev pub decreases-find_in_definition : goal.decreases-find_in_definition
decreases-find_in_definition l = 2 ^ 36 * l.depth + 1

abbrev pub decreases-find_in_fields : goal.decreases-find_in_fields
decreases-find_in_fields l = 2 ^ 36 * l.depth + 2 ^ 35

abbrev pub invariant-find_in_tuple-loop-index : goal.invariant-find_in_tuple-loop-index
invariant-find_in_tuple-loop-index l =
    let f = units_def (shapes_of (crate_of l.program)) l.depth in
    let trees = trees_of l.program.types in
    Gathers l.fn.search l.search (units_from f l.index (at_ids trees (drop l.index l.ids))) (units_from f 0 (at_ids trees l.ids))

abbrev pub invariant-find_in_fields-loop-index : goal.invariant-find_in_fields-loop-index
invariant-find_in_fields-loop-index l =
    let f = units_def (shapes_of (crate_of l.program)) l.depth in
    let trees = trees_of l.program.types in
    Gathers l.fn.search l.search (units_from f l.index (fields_tree trees (drop l.index l.fields))) (units_from f 0 (fields_tree trees l.fields))
