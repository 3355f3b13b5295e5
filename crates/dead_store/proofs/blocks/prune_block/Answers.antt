use Rattle.std.proofs.Common.{List, map, set, ap, ◌∙◌}
use Rattle.mir_syntax.specs.Crate.{stmt_of}
use Rattle.mir_syntax.specs.declared.body.Stmt.{Stmt}
use Rattle.bit_rows.specs.Rows.{row_at}
use Rattle.liveness.specs.Rows.{before_all}
use Rattle.dead_store.proofs.blocks.prune_block.Goals as goal

pub returns-clause-live : goal.returns-clause-live
returns-clause-live c = λ trees. c.in_ok-block.ensures.live trees ∙ ap (λ (ss : List Stmt). set c.args.live.now c.args.row (before_all (map (stmt_of trees) ss) (row_at c.args.live.now c.args.row))) c.replace-stmts.ensures.value
