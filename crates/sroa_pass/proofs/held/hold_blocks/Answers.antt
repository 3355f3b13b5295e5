use Rattle.std.proofs.Common.{ap, ◌∙◌, set, arith}
use Rattle.bit_rows.specs.Rows.{row_at, marked}
use Rattle.bit_rows.proofs.Marks.{marks_more}
use Rattle.mir_syntax.specs.declared.body.Block.{Block}
use Rattle.sroa_pass.specs.Code.{held_block}
use Rattle.sroa_pass.proofs.held.hold_blocks.Goals as goal

pub loop-block-preserved : goal.loop-block-preserved
loop-block-preserved c =
    let now = c.loop-block.rows in
    marks_more held_block c.args.blocks.now c.loop-block.block-index c.block-item.result c.args.rows.now now c.hold_block.new.rows 0 (omega arith) c.requires c.loop-block.invariant
    (c.hold_block.ensures ∙ ap (λ (k : Block). set now 0 (marked (row_at now 0) (held_block k))) c.block-item.is)
