use Rattle.call_graph.proofs.Bits.{begun}
use Rattle.call_graph.proofs.reach.Reach.new.Goals as goal

pub returns : goal.returns
returns c = λ G same. begun G c.args.g.0 c.args.functions same c.requires c.in_ok-rows.rows c.set.new.self c.in_ok-rows.ensures c.set.ensures
