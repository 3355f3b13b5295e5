use Rattle.std.proofs.Common.{ℕ, ◌<◌, sym, subst, ap}
use Rattle.query_table.specs.declared.force.Held.{Held}
use Rattle.query_table.specs.Chain.{HeldAs}
use Rattle.query_table.proofs.Chains.{match_last}
use Rattle.query_table.proofs.table.QueryTable.next_need.Goals as goal

pub next-requires : goal.next-requires
next-requires g c =
    let jobs = ap (λ t. t.1) c.self.view_is in
    let top = match_last {H = Held g.row.J.Denot g.row.J-Answer.Denot g.row.J-Work.Denot} (λ h e. HeldAs {W = g.row.J-Work.Denot} (g.J.Jobs.plan c.args.self.now.1) (g.J.Jobs.is_work c.args.self.now.1) (g.J.Jobs.given c.args.self.now.1) c.args.self.now.0 h.claim h.work e) c.args.seat.now.token.me.0.stack c.args.chain.now c.in-Some.held.now c.requires c.in-Some.ensures.value in
    let k = top.1.1.1 in
    let work = c.in-Some.held.now.work in
    subst (λ (j : g.row.J.Denot). (c.query.result < (g.J.Jobs.plan j).queries) × g.J.Jobs.is_work j c.query.result work) (sym jobs)
    (subst (λ (x : ℕ). (x < (g.J.Jobs.plan c.args.self.now.1).queries) × g.J.Jobs.is_work c.args.self.now.1 x work) (sym c.query.ensures) (k.of_table.below, k.begun))
