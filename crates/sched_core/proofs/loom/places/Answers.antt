use Rattle.std.proofs.Common.{arith}
use Rattle.sched_core.proofs.Weaving.{all_none}
use Rattle.sched_core.proofs.loom.places.Goals as goal

pub returns : goal.returns
returns g c = all_none c.loop.places.items c.args.count (let k = c.loop.invariant.0 in omega (arith, k)) c.loop.invariant.1
