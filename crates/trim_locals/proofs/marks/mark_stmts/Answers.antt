use Rattle.std.proofs.Common.{ap, ◌∙◌, set, arith}
use Rattle.bit_rows.specs.Rows.{row_at, marked}
use Rattle.bit_rows.proofs.Marks.{marks_more}
use Rattle.mir_syntax.specs.declared.body.Stmt.{Stmt}
use Rattle.trim_locals.specs.Code.{bare_stmt_uses}
use Rattle.trim_locals.proofs.marks.mark_stmts.Goals as goal

pub loop-stmt-preserved : goal.loop-stmt-preserved
loop-stmt-preserved c =
    let now = c.loop-stmt.rows in
    marks_more bare_stmt_uses c.args.stmts.now c.loop-stmt.stmt-index c.stmt-item.result c.args.rows.now now c.mark_stmt.new.rows 0 (omega arith) c.requires c.loop-stmt.invariant
    (c.mark_stmt.ensures ∙ ap (λ (s : Stmt). set now 0 (marked (row_at now 0) (bare_stmt_uses s))) c.stmt-item.is)
