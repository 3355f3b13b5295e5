use Rattle.std.proofs.Common.{◌≡◌, map}
use Rattle.std.specs.List.{range_with_len}
use Rattle.bit_rows.specs.Rows.{row_at}
use Rattle.trim_locals.specs.Trimmed.{new_number}
use Rattle.trim_locals.proofs.trim.new_numbers.Given as goal

abbrev pub invariant-loop-local : goal.invariant-loop-local
invariant-loop-local l = (l.next ≡ new_number (row_at l.used 0) l.local) × (l.numbers ≡ map (new_number (row_at l.used 0)) (range_with_len 0 l.local))
