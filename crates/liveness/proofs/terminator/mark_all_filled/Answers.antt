use Rattle.std.proofs.Common.{ap, ◌∙◌, set, arith}
use Rattle.bit_rows.specs.Rows.{row_at, marked}
use Rattle.bit_rows.proofs.Marks.{marks_more}
use Rattle.mir_syntax.specs.declared.body.Stmt.{Stmt}
use Rattle.liveness.specs.Rows.{bare_fills}
use Rattle.liveness.proofs.terminator.mark_all_filled.Goals as goal

pub loop-stmt-preserved : goal.loop-stmt-preserved
loop-stmt-preserved c =
    let now = c.loop-stmt.rows in
    marks_more bare_fills c.args.stmts.now c.loop-stmt.stmt-index c.stmt-item.result c.args.rows.now now c.mark_filled.new.rows c.args.row (omega arith) c.requires c.loop-stmt.invariant
    (c.mark_filled.ensures ∙ ap (λ (s : Stmt). set now c.args.row (marked (row_at now c.args.row) (bare_fills s))) c.stmt-item.is)
