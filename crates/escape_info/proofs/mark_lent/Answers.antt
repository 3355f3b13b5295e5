use Rattle.std.proofs.Common.{ap, ◌∙◌, set, arith}
use Rattle.bit_rows.specs.Rows.{row_at, marked}
use Rattle.bit_rows.proofs.Marks.{marks_more}
use Rattle.mir_syntax.specs.declared.body.Stmt.{Stmt}
use Rattle.escape_info.specs.Borrowed.{bare_lent}
use Rattle.escape_info.proofs.mark_lent.Goals as goal

pub loop-stmt-preserved : goal.loop-stmt-preserved
loop-stmt-preserved c =
    let now = c.loop-stmt.rows in
    marks_more bare_lent c.args.stmts.now c.loop-stmt.stmt-index c.stmt-item.result c.args.rows.now now c.mark_stmt.new.rows 0 (omega arith) c.requires c.loop-stmt.invariant
    (c.mark_stmt.ensures ∙ ap (λ (s : Stmt). set now 0 (marked (row_at now 0) (bare_lent s))) c.stmt-item.is)
