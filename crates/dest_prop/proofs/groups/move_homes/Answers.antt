use Rattle.std.proofs.Common.{arith}
use Rattle.trim_locals.proofs.equal.Same.{over_more}
use Rattle.dest_prop.specs.Code.{moved_home}
use Rattle.dest_prop.proofs.groups.move_homes.Goals as goal

pub loop-home-preserved : goal.loop-home-preserved
loop-home-preserved c = over_more (moved_home c.args.gone c.args.keep) c.args.homes.now.items c.loop-home.home-items c.loop-home.home-index _ c.move_home.new.home (omega arith) c.loop-home.invariant c.move_home.ensures
