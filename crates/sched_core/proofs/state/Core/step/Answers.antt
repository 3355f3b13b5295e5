use Rattle.std.proofs.Common.{sym, ◌∙◌}
use Rattle.sched_core.specs.Shown.{state_of}
use Rattle.sched_core.proofs.Legality.{no_reason_legal}
use Rattle.sched_core.proofs.Acts.{happens_good}
use Rattle.sched_core.proofs.state.Core.step.Goals as goal

pub act-requires-clause-legal : goal.act-requires-clause-legal
act-requires-clause-legal g c κs within = no_reason_legal (g.J.Jobs.plan c.args.jobs.now) (state_of c.args.self.now) c.args.event (sym c.why.ensures ∙ c.in_default.is)

pub returns-clause-core : goal.returns-clause-core
returns-clause-core g c =
    let p = g.J.Jobs.plan c.args.jobs.now in
    let laws = c.requires.core.lawful in
    happens_good p laws c.args.self.now _ c.args.event c.requires.core (no_reason_legal p (state_of c.args.self.now) c.args.event (sym c.why.ensures ∙ c.in_default.is)) c.act.ensures

pub returns-clause-ok : goal.returns-clause-ok
returns-clause-ok g c =
    (no_reason_legal (g.J.Jobs.plan c.args.jobs.now) (state_of c.args.self.now) c.args.event (sym c.why.ensures ∙ c.in_default.is), c.act.ensures.state)
