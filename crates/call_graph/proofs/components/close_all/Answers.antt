use Rattle.std.proofs.Common.{arith}
use Rattle.call_graph.specs.declared.components.Mark.TheVariants.{Closed}
use Rattle.call_graph.proofs.AllSet.{all_set_more}
use Rattle.call_graph.proofs.components.close_all.Goals as goal

pub loop-f-preserved : goal.loop-f-preserved
loop-f-preserved c =
    let i = c.loop-f.f-index in
    record {
      marks = all_set_more c.args.marks.now c.loop-f.marks c.args.closed.now i Closed (omega arith) c.loop-f.invariant.marks;
      component = all_set_more c.args.component.now c.loop-f.component c.args.closed.now i c.args.number (omega arith) c.loop-f.invariant.component;
    }
