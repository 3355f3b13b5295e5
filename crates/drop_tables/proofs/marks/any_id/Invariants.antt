use Rattle.std.proofs.Common.{◌≡◌, length}
use Rattle.std.specs.List.{list_any}
use Rattle.drop_tables.specs.Marks.{id_marked}
use Rattle.drop_tables.proofs.marks.any_id.Given as goal

abbrev pub invariant-ids : goal.invariant-ids
invariant-ids l = list_any (id_marked l.marks) l.ids ≡ list_any (id_marked l.marks) l.rest

abbrev pub decreases-ids : goal.decreases-ids
decreases-ids l = length l.rest
