use Rattle.std.proofs.Common.{◌≡◌, ◌+◌, ◌<◌, length, inr, refl, sym, subst, ap, ◌∙◌, arith}
use Rattle.sched_core.specs.State.{State}
use Rattle.sched_core.specs.Shown.{state_of}
use Rattle.sched_core.specs.Held.{RootsStay}
use Rattle.sched_core.proofs.Rounds.{SoFar, so_far, roots_moved, round_less, moved_workers}
use Rattle.sched_core.proofs.loom.Loom.round.Goals as goal

pub loop-w-init : goal.loop-w-init
loop-w-init g c =
    let p = g.J.Jobs.plan c.args.jobs.now in
    let laws = c.requires.loom.good.lawful in
    (c.requires.loom, refl, λ i lt h. h, inr (((state_of c.args.self.now.core).wait, refl), λ v small e t u. absurd (omega (arith, small))))

pub turn-requires-clause-loom : goal.turn-requires-clause-loom
turn-requires-clause-loom g c = λ κs h. c.loop-w.invariant.0

pub turn-requires-clause-worker : goal.turn-requires-clause-worker
turn-requires-clause-worker g c =
    let k = c.loop-w.invariant.1 in omega (arith, k)

pub loop-w-preserved : goal.loop-w-preserved
loop-w-preserved g c =
    let p = g.J.Jobs.plan c.args.jobs.now in
    let laws = c.requires.loom.good.lawful in
    let inv = c.loop-w.invariant in
    let first = state_of c.args.self.now.core in
    let d = state_of c.loop-w.self.core in
    let small : c.loop-w.w < length c.loop-w.self.core.borrow.items = (let k = inv.1 in omega (arith, k)) in
    let ev = c.in_ok-turn.ensures.event in
    let same : length c.turn.new.self.core.borrow.items ≡ length c.loop-w.self.core.borrow.items = ap (λ (s : State). s.workers) ev.1 ∙ moved_workers p d c.in_ok-turn.field-0 in (
      c.in_ok-turn.ensures.loom,
      same ∙ inv.1,
      subst (RootsStay p first) (sym ev.1) (roots_moved p laws first d inv.0.good.good inv.0.holds.clean c.loop-w.w small c.in_ok-turn.field-0 ev.0 inv.2),
      subst (λ (s : State). SoFar p first s (c.loop-w.w + 1)) (sym ev.1) (so_far p laws first d inv.0.good.good inv.0.holds.clean c.loop-w.w small inv.3 c.in_ok-turn.field-0 ev.0),
    )

pub returns-clause-loom : goal.returns-clause-loom
returns-clause-loom g c =
    c.loop-w.invariant.0

pub returns-clause-workers : goal.returns-clause-workers
returns-clause-workers g c =
    c.loop-w.invariant.1

pub returns-clause-roots : goal.returns-clause-roots
returns-clause-roots g c =
    c.loop-w.invariant.2

pub returns-clause-less : goal.returns-clause-less
returns-clause-less g c =
    let p = g.J.Jobs.plan c.args.jobs.now in
    let laws = c.requires.loom.good.lawful in
    let inv = c.loop-w.invariant in
    let first = state_of c.args.self.now.core in
    let d = state_of c.loop-w.self.core in
    let u = c.requires.undone in
    let over : c.loop-w.w ≡ length c.args.self.now.core.borrow.items = omega arith in
    round_less p laws first d c.requires.loom.good.good c.requires.loom.holds.clean u.1.0 u.1.1 u.0 u.1.2 (subst (SoFar p first d) over inv.3)
