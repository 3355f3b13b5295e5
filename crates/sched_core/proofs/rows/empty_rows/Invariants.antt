use Rattle.std.proofs.Common.{◌≡◌, ℕ, length}
use Rattle.std.specs.Prelude.{slice_get}
use Rattle.sched_core.specs.Shown.{IsEmptyRow}
use Rattle.sched_core.proofs.rows.empty_rows.Given as goal

abbrev pub invariant-loop : goal.invariant-loop
invariant-loop l = (length l.rows.items ≡ l.counter) × ((w : ℕ) → IsEmptyRow (slice_get l.rows.items w))
