use Rattle.std.proofs.Common.{◌<◌, refl, slice_index_or}
use Rattle.std.specs.Prelude.{None, IfSome}
use Rattle.sched_core.specs.Shown.{state_of}
use Rattle.sched_core.proofs.Acts.{root_below}
use Rattle.sched_core.proofs.state.Core.why.Goals as goal

pub why_draw-requires-clause-rooted : goal.why_draw-requires-clause-rooted
why_draw-requires-clause-rooted g c =
    let laws = c.requires.core.lawful in
    let r : IfSome (slice_index_or c.args.self.now.root.items c.in-Draw.w None) (λ r. r < (g.J.Jobs.plan c.args.jobs.now).queries) = root_below (g.J.Jobs.plan c.args.jobs.now) (state_of c.args.self.now) laws c.requires.core.good c.in-Draw.w (slice_index_or c.args.self.now.root.items c.in-Draw.w None) refl in λ κs h. r
