use Rattle.std.proofs.Common.{ap, ◌∙◌, set, arith}
use Rattle.bit_rows.specs.Rows.{row_at, marked}
use Rattle.bit_rows.proofs.Marks.{marks_more}
use Rattle.mir_syntax.specs.declared.body.Operand.{Operand}
use Rattle.liveness.specs.Live.{operand_locals}
use Rattle.liveness.proofs.backward.read_operands.Goals as goal

pub loop-operand-preserved : goal.loop-operand-preserved
loop-operand-preserved c =
    let now = c.loop-operand.rows in
    marks_more operand_locals c.args.operands.now c.loop-operand.operand-index c.operand-item.result c.args.rows.now now c.read_operand.new.rows c.args.row (omega arith) c.requires c.loop-operand.invariant
    (c.read_operand.ensures ∙ ap (λ (a : Operand). set now c.args.row (marked (row_at now c.args.row) (operand_locals a))) c.operand-item.is)
