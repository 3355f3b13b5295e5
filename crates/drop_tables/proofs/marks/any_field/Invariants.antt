use Rattle.std.proofs.Common.{◌≡◌, length}
use Rattle.std.specs.List.{list_any}
use Rattle.drop_tables.specs.Marks.{field_marked}
use Rattle.drop_tables.proofs.marks.any_field.Given as goal

abbrev pub invariant-fields : goal.invariant-fields
invariant-fields l = list_any (field_marked l.marks) l.fields ≡ list_any (field_marked l.marks) l.rest

abbrev pub decreases-fields : goal.decreases-fields
decreases-fields l = length l.rest
