use Rattle.sched_core.proofs.Weaving.{start_weaves}
use Rattle.sched_core.proofs.loom.Loom.new.Goals as goal

pub returns : goal.returns
returns g c =
    let p = g.J.Jobs.plan c.args.jobs.now in
    let laws = c.requires.jobs in (
      start_weaves (g.J.Jobs.is_work c.args.jobs.now) (g.J.Jobs.given c.args.jobs.now) (g.J.Jobs.out c.args.jobs.now) p c.in_ok-new.field-0 c.args.workers c.queries-queries.result c.in_ok-places.field-0.items c.in_ok-places-2.field-0.items
          c.in_ok-new.ensures.0 c.in_ok-new.ensures.1 c.queries-queries.ensures c.in_ok-places.ensures c.in_ok-places-2.ensures,
      c.in_ok-new.ensures.1,
    )
