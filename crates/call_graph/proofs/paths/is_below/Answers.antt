use Rattle.std.proofs.Common.{sym, ◌∙◌}
use Rattle.call_graph.proofs.PathOrder.{below_short}
use Rattle.call_graph.proofs.paths.is_below.Goals as goal

pub returns-then-i-xs : goal.returns-then-i-xs
returns-then-i-xs c = sym (below_short c.args.xs.now c.args.ys.now c.loop-i.i c.loop-i-test.true c.if-i-xs.true) ∙ c.loop-i.invariant
