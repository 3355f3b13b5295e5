use Rattle.std.proofs.Common.{min, ◌≡◌, ◌*◌, ◌+◌, ◌^◌, map, length, IsTrue, Some}
use Rattle.mir_syntax.specs.Tree.{at_ids, trees_of}
use Rattle.mir_syntax.specs.Table.{all_below}
use Rattle.mir_syntax.specs.Shapes.{fields_tree}
use Rattle.mir_semantics.specs.Entry.{both, flat_by, flat_def}
use Rattle.mir_meaning.specs.Programs.{shapes_in}
use Rattle.mir_meaning.specs.Views.{fields_of}
use Rattle.mir_machine.specs.Ends.{integer_in}
use Rattle.mir_entry.proofs.flats.+flat.Given as goal

abbrev pub decreases-push_value : goal.decreases-push_value
decreases-push_value l = 2 ^ 36 * l.depth + (4 * min l.id.0 (2 ^ 32) + 3)

abbrev pub decreases-push_tuple : goal.decreases-push_tuple
decreases-push_tuple l = 2 ^ 36 * l.depth + (4 * l.bound + 2)

abbrev pub decreases-push_types : goal.decreases-push_types
decreases-push_types l = 2 ^ 36 * l.depth + (4 * l.bound + 1)

abbrev pub decreases-push_def : goal.decreases-push_def
decreases-push_def l = 2 ^ 36 * l.depth

abbrev pub decreases-push_struct : goal.decreases-push_struct
decreases-push_struct l = 2 ^ 36 * l.depth + (2 ^ 35 + 1)

abbrev pub decreases-push_fields : goal.decreases-push_fields
decreases-push_fields l = 2 ^ 36 * l.depth + 2 ^ 35

abbrev pub invariant-push_types-types : goal.invariant-push_types-types
invariant-push_types-types l = record {
  below : IsTrue (all_below l.bound l.ids);
  same : both (Some (map integer_in l.out)) (flat_by (flat_def (shapes_in l.program) l.depth) (at_ids (trees_of l.program.types) l.ids) (fields_of l.values)) ≡ both (Some (map integer_in l.initial.out)) (flat_by (flat_def (shapes_in l.program) l.depth) (at_ids (trees_of l.program.types) l.initial.ids) (fields_of l.initial.values));
}

abbrev pub decreases-push_types-types : goal.decreases-push_types-types
decreases-push_types-types l = length l.ids

abbrev pub invariant-push_fields-fields : goal.invariant-push_fields-fields
invariant-push_fields-fields l = both (Some (map integer_in l.out)) (flat_by (flat_def (shapes_in l.program) l.depth) (fields_tree (trees_of l.program.types) l.fields) (fields_of l.values)) ≡ both (Some (map integer_in l.initial.out)) (flat_by (flat_def (shapes_in l.program) l.depth) (fields_tree (trees_of l.program.types) l.initial.fields) (fields_of l.initial.values))

abbrev pub decreases-push_fields-fields : goal.decreases-push_fields-fields
decreases-push_fields-fields l = length l.fields
