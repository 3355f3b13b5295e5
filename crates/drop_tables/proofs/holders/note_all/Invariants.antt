use Rattle.std.proofs.Common.{sum_by}
use Rattle.mir_syntax.specs.Tree.{trees_of}
use Rattle.drop_tables.proofs.Noting.{Noting, id_size}
use Rattle.drop_tables.proofs.holders.note_all.Given as goal

abbrev pub invariant-ids : goal.invariant-ids
invariant-ids l = Noting (trees_of l.program.types) l.fn.ids.items l.from l.fn.holders.items l.holders.items l.ids.items

abbrev pub decreases-ids : goal.decreases-ids
decreases-ids l = sum_by (id_size (trees_of l.program.types)) l.ids.items
