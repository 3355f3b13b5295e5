use Rattle.std.proofs.Common.{◌≡◌, take}
use Rattle.bit_rows.specs.Rows.{row_at}
use Rattle.trim_locals.specs.Trimmed.{marked_items}
use Rattle.trim_locals.proofs.trim.used_types.Given as goal

abbrev pub invariant-loop-local : goal.invariant-loop-local
invariant-loop-local l = l.kept ≡ marked_items (take l.local (row_at l.used 0)) (take l.local l.locals)
