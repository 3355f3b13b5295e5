use Rattle.std.proofs.Common.{◌≡◌, ◌≤◌, ℕ, suc, length}
use Rattle.mir_parse.specs.Lists.{closing, items_from, items_at}
use Rattle.mir_parse.proofs.list.read_items.Given as goal

abbrev pub invariant-turns : goal.invariant-turns
invariant-turns g l =
    let item = g.R.ReadItem.item l.reader in
    (turns : ℕ) × (length l.rest ≤ turns) × (length l.rest ≤ length l.symbols)
    × (items_at (closing l.bracket) item l.symbols ≡ items_from (closing l.bracket) item (suc turns) l.items l.rest)

abbrev pub decreases-turns : goal.decreases-turns
decreases-turns g l = length l.rest
