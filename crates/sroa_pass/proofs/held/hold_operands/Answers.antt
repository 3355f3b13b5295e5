use Rattle.std.proofs.Common.{ap, ◌∙◌, set, arith}
use Rattle.bit_rows.specs.Rows.{row_at, marked}
use Rattle.bit_rows.proofs.Marks.{marks_more}
use Rattle.mir_syntax.specs.declared.body.Operand.{Operand}
use Rattle.sroa_pass.specs.Code.{held_operand}
use Rattle.sroa_pass.proofs.held.hold_operands.Goals as goal

pub loop-operand-preserved : goal.loop-operand-preserved
loop-operand-preserved c =
    let now = c.loop-operand.rows in
    marks_more held_operand c.args.operands.now c.loop-operand.operand-index c.operand-item.result c.args.rows.now now c.hold_operand.new.rows 0 (omega arith) c.requires c.loop-operand.invariant
    (c.hold_operand.ensures ∙ ap (λ (k : Operand). set now 0 (marked (row_at now 0) (held_operand k))) c.operand-item.is)
