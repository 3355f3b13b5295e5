use Rattle.std.proofs.Common.{◌≡◌, List, map, drop, set}
use Rattle.mir_syntax.specs.Tree.{Tree}
use Rattle.mir_syntax.specs.Crate.{stmt_of}
use Rattle.bit_rows.specs.Rows.{row_at, HasSize}
use Rattle.liveness.specs.Rows.{before_all}
use Rattle.dest_prop.specs.Merged.{any_from}
use Rattle.dest_prop.specs.Code.{Grows, hurts_among}
use Rattle.dest_prop.proofs.conflicts.note_stmts.Given as goal

abbrev pub invariant-loop-at : goal.invariant-loop-at
invariant-loop-at l =
    ((trees : List Tree) → l.live ≡ set l.fn.live 0 (before_all (map (stmt_of trees) (drop l.at l.stmts)) (row_at l.fn.live 0)))
    × ((trees : List Tree) → Grows l.locals (λ x y. any_from (hurts_among trees (row_at l.fn.live 0) l.stmts x y) l.at (drop l.at l.stmts)) l.fn.hurts l.hurts)
    × HasSize l.live 1 l.locals
