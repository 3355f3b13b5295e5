use Rattle.std.proofs.Common.{arith}
use Rattle.bit_rows.specs.Rows.{row_at}
use Rattle.trim_locals.specs.Code.{bare_trimmed_block}
use Rattle.trim_locals.proofs.equal.Same.{over_more}
use Rattle.trim_locals.proofs.blocks.trimmed_blocks.Goals as goal

pub loop-block-preserved : goal.loop-block-preserved
loop-block-preserved c = over_more (bare_trimmed_block (row_at c.args.used.now 0) c.args.numbers.now) c.args.blocks c.loop-block.block-items c.loop-block.block-index c.block-item.result c.trim_block.new.block (omega arith) c.loop-block.invariant c.in_ok-trim_block.ensures
