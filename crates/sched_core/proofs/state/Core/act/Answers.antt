use Rattle.std.proofs.Common.{◌≡◌, ℕ, ◌+◌, ◌-◌, sym, subst, ap, arith}
use Rattle.sched_core.specs.declared.Event.{Event}
use Rattle.sched_core.specs.declared.Event.TheVariants.{Claim, Borrow, Release, Publish, Fail}
use Rattle.sched_core.specs.declared.state.Core.{Core}
use Rattle.sched_core.specs.Plan.{Plan}
use Rattle.sched_core.specs.State.{Legal}
use Rattle.sched_core.specs.Shown.{state_of, IsTold, Happens, worker_of}
use Rattle.sched_core.proofs.Whys.{query_below}
use Rattle.sched_core.proofs.Acts.{no_top, claim_room, release_room, count_most, lent}
use Rattle.sched_core.proofs.state.Core.act.Goals as goal

module _ (p : Plan) (c : Core) (e : Event) (m : Legal p (state_of c) e) (t : IsTold p c (worker_of e)) where
  legal_as : (f : Event) → e ≡ f → Legal p (state_of c) f
  legal_as f k = subst (Legal p (state_of c)) k m

  told_as : (f : Event) → e ≡ f → IsTold p c (worker_of f)
  told_as f k = subst (λ (x : Event). IsTold p c (worker_of x)) k t

happens_as : (p : Plan) (c d : Core) (e f : Event) → e ≡ f → Happens p c d f → Happens p c d e
happens_as p c d e f k h = subst (Happens p c d) (sym k) h

pub put_claim-requires-clause-room : goal.put_claim-requires-clause-room
put_claim-requires-clause-room g c =
    let p = g.J.Jobs.plan c.args.jobs.now in
    claim_room p _ _ (c.requires.core.rows c.in-Claim.w) (told_as p c.args.self.now c.args.event c.requires.legal c.requires.told (Claim c.in-Claim.w c.in-Claim.q) c.in-Claim.is)

pub overflow_add-count : goal.overflow_add-count
overflow_add-count g c =
    let p = g.J.Jobs.plan c.args.jobs.now in
    let m = legal_as p c.args.self.now c.args.event c.requires.legal c.requires.told (Borrow c.in-Borrow.w c.in-Borrow.s) c.in-Borrow.is in
    let most = count_most p (state_of c.args.self.now) c.requires.core.good c.in-Borrow.s m.2 m.3.done in
    let count = c.borrowers-count.ensures m.2 m.3.done in
    let few = c.requires.core.sized.few in
    omega (arith, most, count, few)

pub overflow_sub-count : goal.overflow_sub-count
overflow_sub-count g c =
    let p = g.J.Jobs.plan c.args.jobs.now in
    let m = legal_as p c.args.self.now c.args.event c.requires.legal c.requires.told (Release c.in-Release.w c.in-Release.s) c.in-Release.is in
    let b = lent p (state_of c.args.self.now) c.requires.core.good c.in-Release.w c.in-Release.s m.borrows in
    let count = c.borrowers-count-in-Release.ensures b.0 b.1 in
    omega (arith, count, b.2)

pub put_release-requires-clause-room : goal.put_release-requires-clause-room
put_release-requires-clause-room g c =
    let p = g.J.Jobs.plan c.args.jobs.now in
    release_room p _ _ (c.requires.core.rows c.in-Release.w) (told_as p c.args.self.now c.args.event c.requires.legal c.requires.told (Release c.in-Release.w c.in-Release.s) c.in-Release.is)

pub put_publish-requires-clause-query : goal.put_publish-requires-clause-query
put_publish-requires-clause-query g c =
    let p = g.J.Jobs.plan c.args.jobs.now in
    let s = c.args.self.now in
    let m = legal_as p s c.args.event c.requires.legal c.requires.told (Publish c.in-Publish.w) c.in-Publish.is in
    let e = c.in-Some.ensures in
    let below = query_below p (state_of s) c.requires.core.lawful c.requires.core.good c.in-Publish.w c.in-Some.q e.0 e.1 e.2 m.2.worker in
    let status = c.requires.core.sized.status in
    let row = c.requires.core.sized.seen_rows c.in-Publish.w m.2.worker in
    (omega (arith, below, status), omega (arith, below, row))

pub unreachable-requires : goal.unreachable-requires
unreachable-requires g c =
    let p = g.J.Jobs.plan c.args.jobs.now in
    let s = c.args.self.now in
    let m = legal_as p s c.args.event c.requires.legal c.requires.told (Publish c.in-Publish.w) c.in-Publish.is in
    no_top _ _ _ c.in-None.ensures m.2.top

pub put_fail-requires-clause-query : goal.put_fail-requires-clause-query
put_fail-requires-clause-query g c =
    let p = g.J.Jobs.plan c.args.jobs.now in
    let s = c.args.self.now in
    let m = legal_as p s c.args.event c.requires.legal c.requires.told (Fail c.in-Fail.w) c.in-Fail.is in
    let e = c.in-Some-top.ensures in
    let below = query_below p (state_of s) c.requires.core.lawful c.requires.core.good c.in-Fail.w c.in-Some-top.q e.0 e.1 e.2 m.2.worker in
    let status = c.requires.core.sized.status in
    let row = c.requires.core.sized.gone_rows c.in-Fail.w m.2.worker in
    (omega (arith, below, status), omega (arith, below, row))

pub unreachable-requires-in-None-top : goal.unreachable-requires-in-None-top
unreachable-requires-in-None-top g c =
    let p = g.J.Jobs.plan c.args.jobs.now in
    let s = c.args.self.now in
    let m = legal_as p s c.args.event c.requires.legal c.requires.told (Fail c.in-Fail.w) c.in-Fail.is in
    no_top _ _ _ c.in-None-top.ensures m.2.top

pub returns-in-Claim : goal.returns-in-Claim
returns-in-Claim g c =
    let p = g.J.Jobs.plan c.args.jobs.now in
    happens_as p _ _ _ _ c.in-Claim.is (c.put_claim.ensures p)

pub returns-in-Look : goal.returns-in-Look
returns-in-Look g c =
    let p = g.J.Jobs.plan c.args.jobs.now in
    happens_as p _ _ _ _ c.in-Look.is (c.put_look.ensures p)

pub returns-in-Borrow : goal.returns-in-Borrow
returns-in-Borrow g c =
    let p = g.J.Jobs.plan c.args.jobs.now in
    let m = legal_as p c.args.self.now c.args.event c.requires.legal c.requires.told (Borrow c.in-Borrow.w c.in-Borrow.s) c.in-Borrow.is in
    let count = c.borrowers-count.ensures m.2 m.3.done in
    happens_as p _ _ _ _ c.in-Borrow.is (c.put_borrow.ensures p m.2 m.3.done (ap (λ (x : ℕ). x + 1) count))

pub returns-in-Release : goal.returns-in-Release
returns-in-Release g c =
    let p = g.J.Jobs.plan c.args.jobs.now in
    let m = legal_as p c.args.self.now c.args.event c.requires.legal c.requires.told (Release c.in-Release.w c.in-Release.s) c.in-Release.is in
    let b = lent p (state_of c.args.self.now) c.requires.core.good c.in-Release.w c.in-Release.s m.borrows in
    let count = c.borrowers-count-in-Release.ensures b.0 b.1 in
    happens_as p _ _ _ _ c.in-Release.is (c.put_release.ensures p b.0 b.1 (ap (λ (x : ℕ). x - 1) count))

pub returns-in-Steal : goal.returns-in-Steal
returns-in-Steal g c =
    let p = g.J.Jobs.plan c.args.jobs.now in
    happens_as p _ _ _ _ c.in-Steal.is (c.put_steal.ensures p)

pub returns-in-Some : goal.returns-in-Some
returns-in-Some g c =
    let p = g.J.Jobs.plan c.args.jobs.now in
    let s = c.args.self.now in
    let m = legal_as p s c.args.event c.requires.legal c.requires.told (Publish c.in-Publish.w) c.in-Publish.is in
    let e = c.in-Some.ensures in
    happens_as p _ _ _ _ c.in-Publish.is (c.put_publish.ensures p e.0 e.1 e.2)

pub returns-in-Some-top : goal.returns-in-Some-top
returns-in-Some-top g c =
    let p = g.J.Jobs.plan c.args.jobs.now in
    let s = c.args.self.now in
    let m = legal_as p s c.args.event c.requires.legal c.requires.told (Fail c.in-Fail.w) c.in-Fail.is in
    let e = c.in-Some-top.ensures in
    happens_as p _ _ _ _ c.in-Fail.is (c.put_fail.ensures p e.0 e.1 e.2)
