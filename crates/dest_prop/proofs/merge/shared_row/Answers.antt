use Rattle.std.proofs.Common.{arith, length, replicate, false}
use Rattle.dest_prop.proofs.equal.Sharing.{shared_more}
use Rattle.dest_prop.proofs.merge.shared_row.Goals as goal

pub loop-local-preserved : goal.loop-local-preserved
loop-local-preserved c = shared_more c.args.homes.now c.loop-local.row c.mark_shared.new.row (replicate (length c.args.homes.now) false) c.loop-local.local _ (omega arith) c.loop-local.invariant c.mark_shared.ensures
