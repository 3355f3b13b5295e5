use Rattle.std.proofs.Common.{min, ◌≡◌, ◌*◌, ◌+◌, ◌^◌, map, take}
use Rattle.mir_semantics.specs.Values.{blank_by, blank_def}
use Rattle.mir_meaning.specs.Programs.{shapes_in, type_in}
use Rattle.mir_meaning.specs.Views.{value_of}
use Rattle.mir_meaning.proofs.blank.+blank.Given as goal

abbrev pub decreases-blank_within : goal.decreases-blank_within
decreases-blank_within l = 2 ^ 36 * l.depth + (4 * min l.id.0 (2 ^ 32) + 3)

abbrev pub decreases-tuple_blank : goal.decreases-tuple_blank
decreases-tuple_blank l = 2 ^ 36 * l.depth + (4 * l.bound + 2)

abbrev pub decreases-def_blank : goal.decreases-def_blank
decreases-def_blank l = 2 ^ 36 * l.depth + (4 * min l.id.0 (2 ^ 32) + 2)

abbrev pub decreases-fields_blank : goal.decreases-fields_blank
decreases-fields_blank l = 2 ^ 36 * l.depth + 2 ^ 35

abbrev pub invariant-tuple_blank-loop-part : goal.invariant-tuple_blank-loop-part
invariant-tuple_blank-loop-part l = map value_of l.parts ≡ map (λ id. blank_by (blank_def (shapes_in l.program) l.depth) (type_in l.program id)) (take l.part-index l.ids)

abbrev pub invariant-fields_blank-loop-field : goal.invariant-fields_blank-loop-field
invariant-fields_blank-loop-field l = map value_of l.parts ≡ map (λ field. blank_by (blank_def (shapes_in l.program) l.depth) (type_in l.program field.ty)) (take l.field-index l.fields)
