use Rattle.std.proofs.Common.{arith}
use Rattle.bit_rows.specs.Rows.{row_at}
use Rattle.trim_locals.proofs.equal.Same.{over_more}
use Rattle.dest_prop.specs.Code.{home_in, shared_in, bare_block_home}
use Rattle.dest_prop.proofs.merge.blocks_at_home.Goals as goal

pub loop-block-preserved : goal.loop-block-preserved
loop-block-preserved c = over_more (bare_block_home (shared_in (row_at c.args.shared.now 0)) (home_in c.args.homes.now)) c.args.blocks c.loop-block.block-items c.loop-block.block-index c.block-item.result c.put_block_at_home.new.block (omega arith) c.loop-block.invariant c.in_ok-put_block_at_home.ensures
