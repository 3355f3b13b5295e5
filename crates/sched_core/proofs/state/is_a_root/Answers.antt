use Rattle.std.proofs.Common.{◌<◌, sym, ◌∙◌, arith}
use Rattle.sched_core.proofs.Legality.{root_here}
use Rattle.sched_core.proofs.state.is_a_root.Goals as goal

pub returns-then-root-q : goal.returns-then-root-q
returns-then-root-q g c =
    let p = g.J.Jobs.plan c.args.jobs.now in
    let end = c.roots-i-end.ensures in
    let below = c.loop-i-test.true in
    let lt : c.loop-i.i < p.roots = omega arith in
    sym (root_here p.root p.roots c.args.q c.loop-i.i lt (sym c.root.ensures ∙ c.if-root-q.true))
