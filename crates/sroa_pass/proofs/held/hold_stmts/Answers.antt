use Rattle.std.proofs.Common.{ap, ◌∙◌, set, arith}
use Rattle.bit_rows.specs.Rows.{row_at, marked}
use Rattle.bit_rows.proofs.Marks.{marks_more}
use Rattle.mir_syntax.specs.declared.body.Stmt.{Stmt}
use Rattle.sroa_pass.specs.Code.{held_stmt}
use Rattle.sroa_pass.proofs.held.hold_stmts.Goals as goal

pub loop-stmt-preserved : goal.loop-stmt-preserved
loop-stmt-preserved c =
    let now = c.loop-stmt.rows in
    marks_more held_stmt c.args.stmts.now c.loop-stmt.stmt-index c.stmt-item.result c.args.rows.now now c.hold_stmt.new.rows 0 (omega arith) c.requires c.loop-stmt.invariant
    (c.hold_stmt.ensures ∙ ap (λ (k : Stmt). set now 0 (marked (row_at now 0) (held_stmt k))) c.stmt-item.is)
