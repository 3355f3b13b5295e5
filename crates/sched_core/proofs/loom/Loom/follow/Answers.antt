use Rattle.std.proofs.Common.{◌≡◌, ℕ, ◌<◌, List, ◌++◌, length, refl, sym, subst, ap, ◌∙◌, arith}
use Rattle.sched_core.specs.declared.Event.{Event}
use Rattle.sched_core.specs.State.{State}
use Rattle.sched_core.specs.Work.{trail_of}
use Rattle.sched_core.specs.Shown.{state_of}
use Rattle.sched_core.proofs.Rounds.{moved_workers}
use Rattle.sched_core.proofs.Weaving.{follow_step, follow_end}
use Rattle.sched_core.proofs.loom.Loom.follow.Goals as goal

below_as : (x n m : ℕ) → m ≡ n → x < n → x < m
below_as x n m e h = subst (λ (k : ℕ). x < k) (sym e) h

pub loop-w-init : goal.loop-w-init
loop-w-init g c =
    let p = g.J.Jobs.plan c.args.jobs.now in
    let laws = c.requires.loom.good.lawful in
    (c.requires.loom, refl, sym (ap (λ (es : List Event). es ++ trail_of p (state_of c.args.self.now.core) c.args.schedule.now) c.new-trail.ensures))

pub turn-requires-clause-loom : goal.turn-requires-clause-loom
turn-requires-clause-loom g c = λ κs h. c.loop-w.invariant.0

pub turn-requires-clause-worker : goal.turn-requires-clause-worker
turn-requires-clause-worker g c = λ κs h. below_as _ _ _ c.loop-w.invariant.1 (c.requires.schedule c.loop-w.w-index _ (omega arith))

pub loop-w-preserved : goal.loop-w-preserved
loop-w-preserved g c =
    let p = g.J.Jobs.plan c.args.jobs.now in
    let laws = c.requires.loom.good.lawful in
    let inv = c.loop-w.invariant in
    let d = state_of c.loop-w.self.core in
    let ev = c.in_ok-event.ensures.event in
    let same : length c.turn.new.self.core.borrow.items ≡ length c.loop-w.self.core.borrow.items = ap (λ (s : State). s.workers) ev.1 ∙ moved_workers p d c.in_ok-event.event in (
      c.in_ok-event.ensures.loom,
      same ∙ inv.1,
      follow_step p d (state_of c.turn.new.self.core) c.args.schedule.now c.loop-w.w-index _ (trail_of p (state_of c.args.self.now.core) c.args.schedule.now) c.loop-w.trail c.note.new.trail c.in_ok-event.event inv.2 (omega arith) ev.0 ev.1 c.in_ok-note.ensures,
    )

pub returns-clause-loom : goal.returns-clause-loom
returns-clause-loom g c =
    c.loop-w.invariant.0

pub returns-clause-workers : goal.returns-clause-workers
returns-clause-workers g c =
    c.loop-w.invariant.1

pub returns-clause-trail : goal.returns-clause-trail
returns-clause-trail g c =
    let p = g.J.Jobs.plan c.args.jobs.now in
    let laws = c.requires.loom.good.lawful in
    follow_end p (state_of c.loop-w.self.core) c.args.schedule.now c.loop-w.w-index (trail_of p (state_of c.args.self.now.core) c.args.schedule.now) c.loop-w.trail c.loop-w.invariant.2 (omega arith)
