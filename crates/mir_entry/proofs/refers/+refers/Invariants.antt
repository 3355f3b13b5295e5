use Rattle.std.proofs.Common.{min, ◌≡◌, ◌*◌, ◌+◌, ◌^◌, drop, map}
use Rattle.mir_syntax.specs.Tree.{at_ids, trees_of}
use Rattle.mir_syntax.specs.Crate.{variant_of}
use Rattle.mir_syntax.specs.Shapes.{fields_tree, fields_tuple}
use Rattle.mir_semantics.specs.Entry.{refers_by, refers_def, any_refers}
use Rattle.mir_meaning.specs.Programs.{shapes_in}
use Rattle.mir_entry.proofs.refers.+refers.Given as goal

abbrev pub decreases-refers_within : goal.decreases-refers_within
decreases-refers_within l = 2 ^ 36 * l.depth + (4 * min l.id.0 (2 ^ 32) + 3)

abbrev pub decreases-types_refer : goal.decreases-types_refer
decreases-types_refer l = 2 ^ 36 * l.depth + (4 * l.bound + 2)

abbrev pub decreases-def_refers : goal.decreases-def_refers
decreases-def_refers l = 2 ^ 36 * l.depth

abbrev pub decreases-variants_refer : goal.decreases-variants_refer
decreases-variants_refer l = 2 ^ 36 * l.depth + (2 ^ 35 + 1)

abbrev pub invariant-variants_refer-loop-variant : goal.invariant-variants_refer-loop-variant
invariant-variants_refer-loop-variant l = any_refers (refers_def (shapes_in l.program) l.depth) (map fields_tuple (map (variant_of (trees_of l.program.types)) l.variants)) ≡ any_refers (refers_def (shapes_in l.program) l.depth) (map fields_tuple (map (variant_of (trees_of l.program.types)) (drop l.variant-index l.variants)))

abbrev pub decreases-fields_refer : goal.decreases-fields_refer
decreases-fields_refer l = 2 ^ 36 * l.depth + 2 ^ 35

abbrev pub invariant-types_refer-loop-id : goal.invariant-types_refer-loop-id
invariant-types_refer-loop-id l = refers_by (refers_def (shapes_in l.program) l.depth) (at_ids (trees_of l.program.types) l.ids) ≡ refers_by (refers_def (shapes_in l.program) l.depth) (at_ids (trees_of l.program.types) (drop l.id-index l.ids))

abbrev pub invariant-fields_refer-loop-field : goal.invariant-fields_refer-loop-field
invariant-fields_refer-loop-field l = refers_by (refers_def (shapes_in l.program) l.depth) (fields_tree (trees_of l.program.types) l.fields) ≡ refers_by (refers_def (shapes_in l.program) l.depth) (fields_tree (trees_of l.program.types) (drop l.field-index l.fields))
