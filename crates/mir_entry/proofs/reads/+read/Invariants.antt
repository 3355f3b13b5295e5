use Rattle.std.proofs.Common.{min, ◌≡◌, ◌*◌, ◌+◌, ◌^◌, map, length, IsTrue}
use Rattle.mir_syntax.specs.Tree.{at_ids, trees_of}
use Rattle.mir_syntax.specs.Table.{all_below}
use Rattle.mir_syntax.specs.Shapes.{fields_tree}
use Rattle.mir_meaning.specs.Programs.{shapes_in}
use Rattle.mir_meaning.specs.Views.{value_of}
use Rattle.mir_entry.specs.Readings.{read_by, read_def, integers_of, behind}
use Rattle.mir_entry.proofs.reads.+read.Given as goal

abbrev pub decreases-read_value : goal.decreases-read_value
decreases-read_value l = 2 ^ 36 * l.depth + (4 * min l.id.0 (2 ^ 32) + 3)

abbrev pub decreases-read_tuple : goal.decreases-read_tuple
decreases-read_tuple l = 2 ^ 36 * l.depth + (4 * l.bound + 2)

abbrev pub decreases-read_types : goal.decreases-read_types
decreases-read_types l = 2 ^ 36 * l.depth + (4 * l.bound + 1)

abbrev pub decreases-read_named : goal.decreases-read_named
decreases-read_named l = 2 ^ 36 * l.depth

abbrev pub decreases-read_struct : goal.decreases-read_struct
decreases-read_struct l = 2 ^ 36 * l.depth + (2 ^ 35 + 1)

abbrev pub decreases-read_variant : goal.decreases-read_variant
decreases-read_variant l = 2 ^ 36 * l.depth + (2 ^ 35 + 1)

abbrev pub decreases-read_fields : goal.decreases-read_fields
decreases-read_fields l = 2 ^ 36 * l.depth + 2 ^ 35

abbrev pub invariant-read_types-types : goal.invariant-read_types-types
invariant-read_types-types l = record {
  below : IsTrue (all_below l.bound l.ids);
  same : behind (map value_of l.values) (read_by (read_def (shapes_in l.program) l.depth) (at_ids (trees_of l.program.types) l.ids) (integers_of l.numbers)) ≡ read_by (read_def (shapes_in l.program) l.depth) (at_ids (trees_of l.program.types) l.initial.ids) (integers_of l.initial.numbers);
}

abbrev pub decreases-read_types-types : goal.decreases-read_types-types
decreases-read_types-types l = length l.ids

abbrev pub invariant-read_fields-fields : goal.invariant-read_fields-fields
invariant-read_fields-fields l = behind (map value_of l.values) (read_by (read_def (shapes_in l.program) l.depth) (fields_tree (trees_of l.program.types) l.fields) (integers_of l.numbers)) ≡ read_by (read_def (shapes_in l.program) l.depth) (fields_tree (trees_of l.program.types) l.initial.fields) (integers_of l.initial.numbers)

abbrev pub decreases-read_fields-fields : goal.decreases-read_fields-fields
decreases-read_fields-fields l = length l.fields
