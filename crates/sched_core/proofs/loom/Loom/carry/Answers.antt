use Rattle.std.proofs.Common.{◌≡◌, refl, subst, ap, arith}
use Rattle.sched_core.specs.declared.Event.TheVariants.{Claim, Borrow, Release, Steal, Publish}
use Rattle.sched_core.specs.State.{Legal, after, claimed_by}
use Rattle.sched_core.specs.Shown.{state_of}
use Rattle.sched_core.proofs.Whys.{query_below}
use Rattle.sched_core.proofs.Acts.{no_top}
use Rattle.sched_core.proofs.Holding.{hold_claim, hold_borrow, hold_steal}
use Rattle.sched_core.proofs.Weaving.{publish_as, given_next, after_release, finish_ready, taken_there, after_publish, holds_as, begun, gave, finished}
use Rattle.sched_core.proofs.loom.Loom.carry.Goals as goal

pub give_need-requires-clause-query : goal.give_need-requires-clause-query
give_need-requires-clause-query g c =
    let p = g.J.Jobs.plan c.args.jobs.now in
    let s = c.args.self.now in
    let e = c.in-Some.ensures in
    let m = subst (Legal p (state_of s.core)) c.in-Release.is c.requires.legal.0 in
    let small = query_below p (state_of s.core) c.requires.loom.good.lawful c.requires.loom.good.good c.in-Release.w c.in-Some.q e.0 e.1 e.2 m.worker in
    λ κs h. (small, (given_next c.requires.loom c.in-Release.w c.in-Some.q e.0 e.1 e.2 c.in-Release.s m.borrows).1)

pub give_need-requires-clause-work : goal.give_need-requires-clause-work
give_need-requires-clause-work g c =
    let p = g.J.Jobs.plan c.args.jobs.now in
    let s = c.args.self.now in
    let e = c.in-Some.ensures in
    let m = subst (Legal p (state_of s.core)) c.in-Release.is c.requires.legal.0 in
    λ κs h. (given_next c.requires.loom c.in-Release.w c.in-Some.q e.0 e.1 e.2 c.in-Release.s m.borrows).0

pub give_need-requires-clause-answer : goal.give_need-requires-clause-answer
give_need-requires-clause-answer g c =
    let p = g.J.Jobs.plan c.args.jobs.now in
    let s = c.args.self.now in
    let e = c.in-Some.ensures in
    let m = subst (Legal p (state_of s.core)) c.in-Release.is c.requires.legal.0 in
    λ κs h. (given_next c.requires.loom c.in-Release.w c.in-Some.q e.0 e.1 e.2 c.in-Release.s m.borrows).2

pub finish_work-requires-clause-query : goal.finish_work-requires-clause-query
finish_work-requires-clause-query g c =
    let p = g.J.Jobs.plan c.args.jobs.now in
    let s = c.args.self.now in
    let e = c.in-Some-top.ensures in
    let m = subst (Legal p (state_of s.core)) c.in-Publish.is c.requires.legal.0 in
    let small = query_below p (state_of s.core) c.requires.loom.good.lawful c.requires.loom.good.good c.in-Publish.w c.in-Some-top.q e.0 e.1 e.2 m.2.worker in
    λ κs h. (small, let k = c.requires.loom.holds.answers_long in omega (arith, small, k))

pub finish_work-requires-clause-work : goal.finish_work-requires-clause-work
finish_work-requires-clause-work g c =
    let p = g.J.Jobs.plan c.args.jobs.now in
    let s = c.args.self.now in
    let e = c.in-Some-top.ensures in
    let m = subst (Legal p (state_of s.core)) c.in-Publish.is c.requires.legal.0 in
    let may = publish_as p (state_of s.core) c.in-Publish.w m.0 (c.in-Some-top.q, e.0) m.1 e.1 m.2 e.2 in
    λ κs h. finish_ready c.requires.loom c.in-Publish.w c.in-Some-top.q e.0 e.1 e.2 may

pub finish_work-requires-clause-taken : goal.finish_work-requires-clause-taken
finish_work-requires-clause-taken g c =
    let p = g.J.Jobs.plan c.args.jobs.now in
    let s = c.args.self.now in
    let e = c.in-Some-top.ensures in
    let m = subst (Legal p (state_of s.core)) c.in-Publish.is c.requires.legal.0 in
    let may = publish_as p (state_of s.core) c.in-Publish.w m.0 (c.in-Some-top.q, e.0) m.1 e.1 m.2 e.2 in
    λ κs h. taken_there c.requires.loom c.in-Publish.w c.in-Some-top.q e.0 e.1 e.2 may (p.steals c.in-Some-top.q) refl

pub unreachable-requires : goal.unreachable-requires
unreachable-requires g c =
    let p = g.J.Jobs.plan c.args.jobs.now in
    let s = c.args.self.now in
    let m = subst (Legal p (state_of s.core)) c.in-Release.is c.requires.legal.0 in
    let r = c.requires.loom.good.good.borrowed c.in-Release.w c.in-Release.s m.borrows in
    no_top _ _ _ c.in-None.ensures r.stack

pub unreachable-requires-in-None-top : goal.unreachable-requires-in-None-top
unreachable-requires-in-None-top g c =
    let p = g.J.Jobs.plan c.args.jobs.now in
    let s = c.args.self.now in
    let m = subst (Legal p (state_of s.core)) c.in-Publish.is c.requires.legal.0 in
    no_top _ _ _ c.in-None-top.ensures m.2.top

pub returns-in-Claim-clause-holds : goal.returns-in-Claim-clause-holds
returns-in-Claim-clause-holds g c =
    let p = g.J.Jobs.plan c.args.jobs.now in
    let s = c.args.self.now in
    let m = subst (Legal p (state_of s.core)) c.in-Claim.is c.requires.legal.0 in
    let is : after p (state_of s.core) c.args.event ≡ after p (state_of s.core) (Claim c.in-Claim.field-0 c.in-Claim.q) = ap (after p (state_of s.core)) c.in-Claim.is in
    begun _ _ _ p (after p (state_of s.core) c.args.event) s.works.items c.begin_work.new.works.items s.answers.items c.in-Claim.q c.begin_work.result c.begin_work.ensures
    (λ x iw gx. holds_as _ _ _ p (claimed_by (state_of s.core) c.in-Claim.field-0 c.in-Claim.q) _ _ _ _ _ is refl refl (hold_claim _ _ _ p c.requires.loom.good.lawful (state_of s.core) c.requires.loom.good.good s.works.items s.answers.items c.requires.loom.holds c.in-Claim.field-0 c.in-Claim.q m x iw gx))

pub returns-in-Some-clause-holds : goal.returns-in-Some-clause-holds
returns-in-Some-clause-holds g c =
    let p = g.J.Jobs.plan c.args.jobs.now in
    let s = c.args.self.now in
    let e = c.in-Some.ensures in
    let m = subst (Legal p (state_of s.core)) c.in-Release.is c.requires.legal.0 in
    let small = query_below p (state_of s.core) c.requires.loom.good.lawful c.requires.loom.good.good c.in-Release.w c.in-Some.q e.0 e.1 e.2 m.worker in
    let is : after p (state_of s.core) c.args.event ≡ after p (state_of s.core) (Release c.in-Release.w c.in-Release.s) = ap (after p (state_of s.core)) c.in-Release.is in
    gave _ _ _ p (after p (state_of s.core) c.args.event) s.works.items c.give_need.new.works.items s.answers.items c.in-Some.q c.in-Release.s c.give_need.result c.give_need.ensures
    (λ y iw gy. holds_as _ _ _ p _ _ _ _ _ _ is refl refl (after_release c.requires.loom c.in-Release.w c.in-Some.q e.0 e.1 e.2 c.in-Release.s small y iw gy))

pub returns-in-Some-top-clause-holds : goal.returns-in-Some-top-clause-holds
returns-in-Some-top-clause-holds g c =
    let p = g.J.Jobs.plan c.args.jobs.now in
    let s = c.args.self.now in
    let e = c.in-Some-top.ensures in
    let m = subst (Legal p (state_of s.core)) c.in-Publish.is c.requires.legal.0 in
    let small = query_below p (state_of s.core) c.requires.loom.good.lawful c.requires.loom.good.good c.in-Publish.w c.in-Some-top.q e.0 e.1 e.2 m.2.worker in
    let may = publish_as p (state_of s.core) c.in-Publish.w m.0 (c.in-Some-top.q, e.0) m.1 e.1 m.2 e.2 in
    let is : after p (state_of s.core) c.args.event ≡ after p (state_of s.core) (Publish c.in-Publish.w) = ap (after p (state_of s.core)) c.in-Publish.is in
    finished _ _ _ p (after p (state_of s.core) c.args.event) s.works.items c.finish_work.new.works.items s.answers.items c.finish_work.new.answers.items c.in-Some-top.q c.finish_work.result c.finish_work.ensures.works c.finish_work.ensures.answers
    (holds_as _ _ _ p _ _ _ _ _ _ is refl refl (after_publish c.requires.loom c.in-Publish.w c.in-Some-top.q e.0 e.1 e.2 may small))

pub returns-in-Borrow-clause-holds : goal.returns-in-Borrow-clause-holds
returns-in-Borrow-clause-holds g c =
    let p = g.J.Jobs.plan c.args.jobs.now in
    let s = c.args.self.now in
    let is : after p (state_of s.core) c.args.event ≡ after p (state_of s.core) (Borrow c.in-Borrow.field-0 c.in-Borrow.field-1) = ap (after p (state_of s.core)) c.in-Borrow.is in
    holds_as _ _ _ p _ _ _ _ _ _ is refl refl (hold_borrow _ _ _ p c.requires.loom.good.lawful (state_of s.core) c.requires.loom.good.good s.works.items s.answers.items c.requires.loom.holds c.in-Borrow.field-0 c.in-Borrow.field-1)

pub returns-in-Steal-clause-holds : goal.returns-in-Steal-clause-holds
returns-in-Steal-clause-holds g c =
    let p = g.J.Jobs.plan c.args.jobs.now in
    let s = c.args.self.now in
    let m = subst (Legal p (state_of s.core)) c.in-Steal.is c.requires.legal.0 in
    let is : after p (state_of s.core) c.args.event ≡ after p (state_of s.core) (Steal c.in-Steal.field-0 c.in-Steal.field-1) = ap (after p (state_of s.core)) c.in-Steal.is in
    holds_as _ _ _ p _ _ _ _ _ _ is refl refl (hold_steal _ _ _ p c.requires.loom.good.lawful (state_of s.core) c.requires.loom.good.good s.works.items s.answers.items c.requires.loom.holds c.in-Steal.field-0 c.in-Steal.field-1 m.2.done)
