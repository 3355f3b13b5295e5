use Rattle.std.proofs.Common.{arith}
use Rattle.dest_prop.proofs.equal.Grouping.{alone_more}
use Rattle.dest_prop.proofs.groups.rows_of_each.Goals as goal

pub loop-local-preserved : goal.loop-local-preserved
loop-local-preserved c = alone_more c.args.locals c.args.hurts.now c.loop-local.rows c.copy_other.new.self c.set.new.self c.loop-local.local c.requires.size (omega arith) c.loop-local.invariant c.copy_other.ensures.row c.set.ensures
