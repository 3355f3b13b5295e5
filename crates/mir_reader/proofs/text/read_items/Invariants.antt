use Rattle.std.proofs.Common.{◌≤◌, ◌+◌, length}
use Rattle.mir_reader.specs.Text.{IsReadTo}
use Rattle.mir_reader.proofs.text.read_items.Given as goal

abbrev pub invariant-items : goal.invariant-items
invariant-items l =
    IsReadTo l.bytes l.found l.items l.rest × (length l.found.strings + length l.rest ≤ length l.bytes + 8) × (l.found.end_line + length l.rest ≤ length l.bytes + 1)

abbrev pub decreases-items : goal.decreases-items
decreases-items l = length l.rest
