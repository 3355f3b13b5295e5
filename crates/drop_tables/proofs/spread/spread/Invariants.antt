use Rattle.std.proofs.Common.{◌≡◌, ◌<◌, [], List, length}
use Rattle.std.specs.List.{All}
use Rattle.mir_syntax.specs.Shapes.{Shape}
use Rattle.drop_tables.specs.Marks.{is_marked}
use Rattle.drop_tables.specs.Holders.{AreHolders}
use Rattle.drop_tables.proofs.Rounds.{IsSpread}
use Rattle.drop_tables.proofs.spread.spread.Given as goal

abbrev pub invariant-loop-round : goal.invariant-loop-round
invariant-loop-round l = (l.found.items ≡ [])
    × (length l.marks.items ≡ length l.holders)
    × All (λ e. e < length l.holders) l.front.items
    × ((D : List Shape) → AreHolders D l.holders → IsSpread D l.holders (is_marked l.fn.own) l.marks.items l.front.items l.round)
