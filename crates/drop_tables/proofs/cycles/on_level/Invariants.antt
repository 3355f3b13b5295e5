use Rattle.drop_tables.specs.Holders.{Ordered}
use Rattle.drop_tables.proofs.cycles.on_level.Given as goal

abbrev pub invariant-loop-def : goal.invariant-loop-def
invariant-loop-def l = Ordered l.holders l.numbers l.marks.items l.def
