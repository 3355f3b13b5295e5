use Rattle.std.proofs.Common.{take}
use Rattle.drop_tables.specs.Holders.{Round}
use Rattle.drop_tables.proofs.spread.mark_round.Given as goal

abbrev pub invariant-loop-def : goal.invariant-loop-def
invariant-loop-def l = Round l.holders l.fn.marks.items l.marks.items (take l.def-index l.front) l.found.items
