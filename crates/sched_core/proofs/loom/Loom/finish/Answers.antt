use Rattle.std.proofs.Common.{◌≡◌, ℕ, ◌<◌, true, length, inl, inr, refl, sym, subst, ◌∙◌, arith}
use Rattle.sched_core.specs.State.{done}
use Rattle.sched_core.specs.Shown.{state_of}
use Rattle.sched_core.proofs.Lists.{nat_cases}
use Rattle.sched_core.proofs.loom.Loom.finish.Goals as goal

pub loop-i-init : goal.loop-i-init
loop-i-init g c =
    (c.requires.loom, refl, λ i lt. absurd (omega (arith, lt)))

pub work_on-requires-clause-loom : goal.work_on-requires-clause-loom
work_on-requires-clause-loom g c = λ κs h. c.loop-i.invariant.0

pub work_on-requires-clause-root : goal.work_on-requires-clause-root
work_on-requires-clause-root g c =
    let p = g.J.Jobs.plan c.args.jobs.now in
    let laws = c.requires.loom.good.lawful in
    let inv = c.loop-i.invariant in
    let small : c.loop-i.i < p.roots = omega arith in
    let some : 0 < length c.loop-i.self.core.borrow.items = (let k = inv.1 in let r = c.requires.workers in omega (arith, k, r)) in
    λ κs h. (small, some)

pub loop-i-preserved : goal.loop-i-preserved
loop-i-preserved g c =
    let p = g.J.Jobs.plan c.args.jobs.now in
    let laws = c.requires.loom.good.lawful in
    let inv = c.loop-i.invariant in
    let small : c.loop-i.i < p.roots = omega arith in (
      c.in_ok-work_on.ensures.loom,
      c.in_ok-work_on.ensures.workers ∙ inv.1,
      λ k lt. elim (nat_cases k c.loop-i.i) [
        | inl e ↦ subst (λ (x : ℕ). done ((state_of c.work_on.new.self.core).status (p.root x)) ≡ true) (sym e) c.in_ok-work_on.ensures.done
        | inr ne ↦ c.in_ok-work_on.ensures.roots k (omega (arith, lt, small)) (inv.2 k (omega (arith, lt, ne)))
      ],
    )

pub returns-clause-loom : goal.returns-clause-loom
returns-clause-loom g c =
    c.loop-i.invariant.0

pub returns-clause-done : goal.returns-clause-done
returns-clause-done g c =
    λ k lt. c.loop-i.invariant.2 k (omega (arith, lt))
