use Rattle.std.proofs.Common.{◌≡◌, ℕ, length}
use Rattle.std.specs.Prelude.{slice_get}
use Rattle.sched_core.specs.Shown.{IsBlank}
use Rattle.sched_core.proofs.rows.blank_rows.Given as goal

abbrev pub invariant-loop : goal.invariant-loop
invariant-loop l = (length l.rows.items ≡ l.counter) × ((w : ℕ) → IsBlank l.len (slice_get l.rows.items w))
