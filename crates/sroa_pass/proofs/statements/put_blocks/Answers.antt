use Rattle.std.proofs.Common.{arith}
use Rattle.trim_locals.proofs.equal.Same.{over_more}
use Rattle.sroa_pass.specs.Code.{put_block}
use Rattle.sroa_pass.proofs.statements.put_blocks.Goals as goal

pub loop-block-preserved : goal.loop-block-preserved
loop-block-preserved c = over_more (put_block c.args.table.now) c.args.blocks c.loop-block.block-items c.loop-block.block-index c.block-item.result c.put_block.new.block (omega arith) c.loop-block.invariant c.in_ok-put_block.ensures
