use Rattle.std.proofs.Common.{take}
use Rattle.drop_tables.specs.Holders.{Finds}
use Rattle.drop_tables.proofs.spread.mark_all.Given as goal

abbrev pub invariant-loop-def : goal.invariant-loop-def
invariant-loop-def l = Finds l.fn.marks.items l.marks.items l.fn.found.items l.found.items (take l.def-index l.held)
