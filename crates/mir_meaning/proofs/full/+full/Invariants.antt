use Rattle.std.proofs.Common.{◌≡◌, ◌*◌, ◌+◌, ◌^◌, min, length, IsTrue}
use Rattle.mir_syntax.specs.Tree.{at_ids, trees_of}
use Rattle.mir_syntax.specs.Table.{all_below}
use Rattle.mir_syntax.specs.Shapes.{fields_tree}
use Rattle.mir_semantics.specs.Values.{full_by, full_def}
use Rattle.mir_meaning.specs.Programs.{shapes_in}
use Rattle.mir_meaning.specs.Views.{fields_of}
use Rattle.mir_meaning.proofs.full.+full.Given as goal

abbrev pub decreases-full_within : goal.decreases-full_within
decreases-full_within l = 2 ^ 36 * l.depth + (4 * min l.id.0 (2 ^ 32) + 3)

abbrev pub decreases-tuple_full : goal.decreases-tuple_full
decreases-tuple_full l = 2 ^ 36 * l.depth + (4 * l.bound + 2)

abbrev pub decreases-types_full : goal.decreases-types_full
decreases-types_full l = 2 ^ 36 * l.depth + (4 * l.bound + 1)

abbrev pub decreases-def_full : goal.decreases-def_full
decreases-def_full l = 2 ^ 36 * l.depth + (4 * min l.id.0 (2 ^ 32) + 2)

abbrev pub decreases-struct_full : goal.decreases-struct_full
decreases-struct_full l = 2 ^ 36 * l.depth + (2 ^ 35 + 1)

abbrev pub decreases-fields_full : goal.decreases-fields_full
decreases-fields_full l = 2 ^ 36 * l.depth + 2 ^ 35

abbrev pub invariant-types_full-loop-id : goal.invariant-types_full-loop-id
invariant-types_full-loop-id l = record {
  below : IsTrue (all_below l.bound l.ids);
  same : full_by (full_def (shapes_in l.program) l.depth) (at_ids (trees_of l.program.types) l.ids) (fields_of l.values) ≡ full_by (full_def (shapes_in l.program) l.depth) (at_ids (trees_of l.program.types) l.initial.ids) (fields_of l.initial.values);
}

abbrev pub decreases-types_full-loop-id : goal.decreases-types_full-loop-id
decreases-types_full-loop-id l = length l.ids

abbrev pub invariant-fields_full-loop-field : goal.invariant-fields_full-loop-field
invariant-fields_full-loop-field l = full_by (full_def (shapes_in l.program) l.depth) (fields_tree (trees_of l.program.types) l.fields) (fields_of l.values) ≡ full_by (full_def (shapes_in l.program) l.depth) (fields_tree (trees_of l.program.types) l.initial.fields) (fields_of l.initial.values)

abbrev pub decreases-fields_full-loop-field : goal.decreases-fields_full-loop-field
decreases-fields_full-loop-field l = length l.fields
