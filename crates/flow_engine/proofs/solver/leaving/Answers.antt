use Rattle.std.proofs.Common.{◌<◌, length, arith}
use Rattle.flow_engine.proofs.Lists.{leaving_more}
use Rattle.flow_engine.proofs.solver.leaving.Goals as goal

pub loop-i-preserved : goal.loop-i-preserved
loop-i-preserved c =
    let es = c.args.edges.now in
    let low : c.loop-i.i < length es = omega arith in
    leaving_more es c.args.blocks c.loop-i.lists.items c.loop-i.i (record { from = 0; to = 0 }) c.index_mut-list.result.now c.push.new.self low c.loop-i.invariant (c.requires c.loop-i.i (record { from = 0; to = 0 }) low).0 c.index_mut-list.ensures.value c.in_ok-push.ensures.ok
