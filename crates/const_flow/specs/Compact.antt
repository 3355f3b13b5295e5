-- Rows of cells, one after another in one list.
use Rattle.std.specs.Prelude.{◌≡◌, ℕ, ◌+◌, ◌≤◌, List, take, drop, length, Option, Some, None, slice_get}
use Rattle.mir_syntax.specs.declared.body.Place.{Place}
use Rattle.const_flow.specs.declared.cell.Cell.{Cell}
use Rattle.const_flow.specs.ConstAt.{Reached}
use Rattle.const_flow.specs.Cells.{facts_of}

-- the facts of the row that begins at a number, if there is one
abbrev pub reached_in : List Place → List Cell → Option ℕ → Reached
reached_in places cells None = None
reached_in places cells (Some from) = Some (facts_of places (take (length places) (drop from cells)))

-- each row is whole
abbrev pub IsCompact : List Place → List Cell → List (Option ℕ) → Type 0
IsCompact places cells rows = (b from : ℕ) → slice_get rows b ≡ Some (Some from) → from + length places ≤ length cells
