use Rattle.std.proofs.Common.{map, length}
use Rattle.mir_file.specs.Clashes.{defined_as}
use Rattle.mir_file.proofs.Clashing.{Sees}
use Rattle.mir_file.proofs.clashes.note_clashes.Given as goal

abbrev pub invariant-items : goal.invariant-items
invariant-items l = Sees l.seen l.fn.notes l.notes (map (defined_as l.strings) l.left) (map (defined_as l.strings) l.items)

abbrev pub decreases-items : goal.decreases-items
decreases-items l = length l.left
