use Rattle.std.proofs.Common.{take}
use Rattle.drop_tables.specs.Holders.{Looked}
use Rattle.drop_tables.proofs.cycles.look_over.Given as goal

abbrev pub invariant-loop-def : goal.invariant-loop-def
invariant-loop-def l = Looked l.numbers l.held (take l.def-index l.holders) l.fn.marks.items l.marks.items
