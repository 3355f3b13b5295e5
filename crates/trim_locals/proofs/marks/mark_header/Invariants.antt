use Rattle.std.proofs.Common.{◌≡◌, set}
use Rattle.std.specs.List.{range_with_len}
use Rattle.bit_rows.specs.Rows.{row_at, marked}
use Rattle.trim_locals.proofs.marks.mark_header.Given as goal

abbrev pub invariant-loop-local : goal.invariant-loop-local
invariant-loop-local l = l.rows ≡ set l.fn.rows 0 (marked (row_at l.fn.rows 0) (range_with_len 0 l.local))
