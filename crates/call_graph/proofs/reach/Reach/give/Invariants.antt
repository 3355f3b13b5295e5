use Rattle.std.proofs.Common.{◌≡◌, ◌∷◌, [], map, take}
use Rattle.bit_rows.specs.Rows.{row_at, marked}
use Rattle.mir_syntax.specs.Drops.{fn_number}
use Rattle.call_graph.proofs.reach.Reach.give.Given as goal

abbrev pub invariant-loop-g : goal.invariant-loop-g
invariant-loop-g l = l.self ≡ marked (row_at l.initial.self 0) (map fn_number (take l.g-index l.list)) ∷ row_at l.initial.self 1 ∷ []
