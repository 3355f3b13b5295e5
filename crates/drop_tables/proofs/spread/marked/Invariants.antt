use Rattle.std.proofs.Common.{◌≡◌, ◌<◌, ℕ, true}
use Rattle.std.specs.List.{Contains}
use Rattle.drop_tables.specs.Marks.{is_marked}
use Rattle.drop_tables.proofs.spread.marked.Given as goal

abbrev pub invariant-loop-def : goal.invariant-loop-def
invariant-loop-def l = ((d : ℕ) → d < l.def → is_marked l.marks d ≡ true → Contains l.found.items d) × ((d : ℕ) → Contains l.found.items d → is_marked l.marks d ≡ true)
