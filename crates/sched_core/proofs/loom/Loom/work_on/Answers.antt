use Rattle.std.proofs.Common.{◌≡◌, ℕ, ◌<◌, false, length, refl, sym, ap, ◌∙◌, arith}
use Rattle.sched_core.specs.State.{done}
use Rattle.sched_core.specs.Shown.{state_of}
use Rattle.sched_core.proofs.loom.Loom.work_on.Goals as goal

pub loop-self-init : goal.loop-self-init
loop-self-init g c =
    (c.requires.loom, refl, λ i lt h. h)

pub is_done-requires : goal.is_done-requires
is_done-requires g c =
    let p = g.J.Jobs.plan c.args.jobs.now in
    let laws = c.requires.loom.good.lawful in
    let inv = c.loop-self.invariant in
    let small = laws.roots_below c.args.i c.requires.root.0 in
    let root = c.root-root.ensures in
    let status = inv.0.good.sized.status in
    omega (arith, small, root, status)

pub round-requires-clause-loom : goal.round-requires-clause-loom
round-requires-clause-loom g c = λ κs h. c.loop-self.invariant.0

pub round-requires-clause-undone : goal.round-requires-clause-undone
round-requires-clause-undone g c =
    let p = g.J.Jobs.plan c.args.jobs.now in
    let laws = c.requires.loom.good.lawful in
    let inv = c.loop-self.invariant in
    let undone : done ((state_of c.loop-self.self.core).status c.root-root.result) ≡ false = sym c.is_done.ensures ∙ c.loop-self-test.true in
    let some : 0 < length c.loop-self.self.core.borrow.items = (let k = inv.1 in let r = c.requires.root.1 in omega (arith, k, r)) in
    λ κs h. (some, (c.args.i, c.requires.root.0, ap (λ (q : ℕ). done ((state_of c.loop-self.self.core).status q)) (sym c.root-root.ensures) ∙ undone))

pub loop-self-smaller : goal.loop-self-smaller
loop-self-smaller g c =
    c.in_ok-round.ensures.less

pub loop-self-preserved : goal.loop-self-preserved
loop-self-preserved g c =
    let p = g.J.Jobs.plan c.args.jobs.now in
    let laws = c.requires.loom.good.lawful in
    let inv = c.loop-self.invariant in
    (c.in_ok-round.ensures.loom, c.in_ok-round.ensures.workers ∙ inv.1, λ i lt h. c.in_ok-round.ensures.roots i lt (inv.2 i lt h))

pub returns-clause-loom : goal.returns-clause-loom
returns-clause-loom g c =
    c.loop-self.invariant.0

pub returns-clause-workers : goal.returns-clause-workers
returns-clause-workers g c =
    c.loop-self.invariant.1

pub returns-clause-roots : goal.returns-clause-roots
returns-clause-roots g c =
    c.loop-self.invariant.2
