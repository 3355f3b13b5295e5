use Rattle.std.proofs.Common.{List, drop}
use Rattle.mir_syntax.specs.Tree.{Tree}
use Rattle.bit_rows.specs.Rows.{HasSize}
use Rattle.dest_prop.specs.Merged.{any_from}
use Rattle.dest_prop.specs.Code.{Grows, hurts_in}
use Rattle.dest_prop.proofs.conflicts.note_blocks.Given as goal

abbrev pub invariant-loop-at : goal.invariant-loop-at
invariant-loop-at l =
    ((trees : List Tree) → Grows l.locals (λ x y. any_from (hurts_in trees l.rows.starts l.rows.ends x y) l.at (drop l.at l.blocks)) l.fn.hurts l.hurts)
    × HasSize l.live 1 l.locals
