use Rattle.std.proofs.Common.{◌<◌, length, refl, sym, subst, ap, ◌∙◌, arith, slice_index_or}
use Rattle.std.specs.Prelude.{Some, None, IfSome}
use Rattle.sched_core.specs.Shown.{state_of}
use Rattle.sched_core.proofs.Acts.{root_below}
use Rattle.sched_core.proofs.Whys.{query_below, need_below, steals_below}
use Rattle.sched_core.proofs.Taking.{index_is, empty_is, need_is, end_is}
use Rattle.sched_core.proofs.state.Core.turn.Goals as goal

pub turn_empty-requires-clause-root : goal.turn_empty-requires-clause-root
turn_empty-requires-clause-root g c =
    let p = g.J.Jobs.plan c.args.jobs.now in
    let s = c.args.self.now in
    let r : IfSome (slice_index_or s.root.items c.args.w None) (λ r. r < p.queries) = root_below p (state_of s) c.requires.core.lawful c.requires.core.good c.args.w (slice_index_or s.root.items c.args.w None) refl in λ κs h. r

pub returns-in_default-top : goal.returns-in_default-top
returns-in_default-top g c =
    let p = g.J.Jobs.plan c.args.jobs.now in
    let s = c.args.self.now in
    let borrow = index_is s.borrow.items c.args.w c.index.result.now None None c.requires.worker c.index.ensures c.in_default.is in
    c.turn_empty.ensures ∙ empty_is p (state_of s) c.args.w borrow c.in_default-top.ensures

pub steals-steals-requires : goal.steals-steals-requires
steals-steals-requires g c =
    let p = g.J.Jobs.plan c.args.jobs.now in
    let s = c.args.self.now in
    let e = c.in-Some-top.ensures in
    query_below p (state_of s) c.requires.core.lawful c.requires.core.good c.args.w c.in-Some-top.q e.0 e.1 e.2 c.requires.worker

pub turn_need-requires-clause-query : goal.turn_need-requires-clause-query
turn_need-requires-clause-query g c =
    let p = g.J.Jobs.plan c.args.jobs.now in
    let s = c.args.self.now in
    let e = c.in-Some-top.ensures in
    let below : IfSome c.next.result (λ n. n < p.queries) = need_below p (state_of s) c.requires.core.lawful c.requires.core.good c.args.w c.in-Some-top.q e.0 e.1 e.2 c.requires.worker c.next.result c.next.ensures p.queries refl in
    let small : c.in-Some-next.need < p.queries = subst (λ o. IfSome o (λ n. n < p.queries)) c.in-Some-next.is below in
    let status = c.requires.core.sized.status in
    let row = c.requires.core.sized.seen_rows c.args.w c.requires.worker in
    (omega (arith, small, status), omega (arith, small, row))

pub turn_need-requires-clause-steals : goal.turn_need-requires-clause-steals
turn_need-requires-clause-steals g c =
    let p = g.J.Jobs.plan c.args.jobs.now in
    let s = c.args.self.now in
    let e = c.in-Some-top.ensures in
    steals_below p (state_of s) c.requires.core.lawful c.requires.core.good c.args.w c.in-Some-top.q e.0 e.1 e.2 c.requires.worker c.steals-steals.result c.steals-steals.ensures (length s.status.items) c.requires.core.sized.status

pub ended-requires : goal.ended-requires
ended-requires g c =
    let p = g.J.Jobs.plan c.args.jobs.now in
    let s = c.args.self.now in
    let e = c.in-Some-top.ensures in
    steals_below p (state_of s) c.requires.core.lawful c.requires.core.good c.args.w c.in-Some-top.q e.0 e.1 e.2 c.requires.worker c.steals-steals.result c.steals-steals.ensures (length s.status.items) c.requires.core.sized.status

pub returns-in-Some-next : goal.returns-in-Some-next
returns-in-Some-next g c =
    let p = g.J.Jobs.plan c.args.jobs.now in
    let s = c.args.self.now in
    let e = c.in-Some-top.ensures in
    let borrow = index_is s.borrow.items c.args.w c.index.result.now None None c.requires.worker c.index.ensures c.in_default.is in
    ap Some c.turn_need.ensures ∙ need_is p (state_of s) c.requires.core.lawful c.requires.core.good c.args.w c.in-Some-top.q e.0 e.1 e.2 borrow c.in-Some-next.need c.steals-steals.result (sym c.in-Some-next.is ∙ c.next.ensures) c.steals-steals.ensures

pub returns-in-None : goal.returns-in-None
returns-in-None g c =
    let p = g.J.Jobs.plan c.args.jobs.now in
    let s = c.args.self.now in
    let e = c.in-Some-top.ensures in
    let borrow = index_is s.borrow.items c.args.w c.index.result.now None None c.requires.worker c.index.ensures c.in_default.is in
    ap Some c.ended.ensures ∙ end_is p (state_of s) c.requires.core.lawful c.requires.core.good c.args.w c.in-Some-top.q e.0 e.1 e.2 borrow c.steals-steals.result (sym c.in-None.is ∙ c.next.ensures) c.steals-steals.ensures
