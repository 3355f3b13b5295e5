use Rattle.std.proofs.Common.{◌≡◌, []}
use Rattle.drop_tables.proofs.Noting.{Gathered}
use Rattle.drop_tables.proofs.holders.holders_of.Given as goal

abbrev pub invariant-loop-from : goal.invariant-loop-from
invariant-loop-from l = (l.ids.items ≡ []) × Gathered l.program l.lists.items l.from
