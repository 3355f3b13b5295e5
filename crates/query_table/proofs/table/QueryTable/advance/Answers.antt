use Rattle.std.proofs.Common.{ℕ, ◌<◌, List, sym, subst, ap, ◌∙◌}
use Rattle.query_table.specs.declared.force.Held.{Held}
use Rattle.query_table.specs.Steps.{look_view}
use Rattle.query_table.specs.Chain.{Matches, HeldAs, ClaimedAs}
use Rattle.query_table.proofs.Chains.{match_weaker, next_not_own}
use Rattle.query_table.proofs.Forcing.{match_at, forcing_looked, looked_failed, next_below, last_root_below}
use Rattle.query_table.proofs.table.QueryTable.advance.Goals as goal

pub look-requires-clause-query : goal.look-requires-clause-query
look-requires-clause-query g c κs within =
    next_below {H = Held g.row.J.Denot g.row.J-Answer.Denot g.row.J-Work.Denot} (g.J.Jobs.plan c.args.self.now.1) c.in-Some.ensures.lawful (λ h e. HeldAs {W = g.row.J-Work.Denot} (g.J.Jobs.plan c.args.self.now.1) (g.J.Jobs.is_work c.args.self.now.1) (g.J.Jobs.given c.args.self.now.1) c.args.self.now.0 h.claim h.work e) (λ h e r. subst (λ (x : ℕ). x < (g.J.Jobs.plan c.args.self.now.1).queries) (sym r.query) r.of_table.below) c.args.q c.in-Some.need c.args.seat.now.token.me.0.stack c.args.chain.now.items c.requires.chain (last_root_below (g.J.Jobs.plan c.args.self.now.1) c.in-Some.ensures.lawful c.args.seat.now.token.me.0.drawn c.args.q c.requires.seat.root) (sym c.in-Some.ensures.need)

pub look-requires-clause-other : goal.look-requires-clause-other
look-requires-clause-other g c κs within = next_not_own (g.J.Jobs.plan c.args.self.now.1) c.in-Some.ensures.lawful c.args.q c.in-Some.need c.args.seat.now.token.me.0.stack (sym c.in-Some.ensures.need) c.requires.seat.rising

pub try_claim-requires-clause-query : goal.try_claim-requires-clause-query
try_claim-requires-clause-query g c κs within =
    next_below {H = Held g.row.J.Denot g.row.J-Answer.Denot g.row.J-Work.Denot} (g.J.Jobs.plan c.args.self.now.1) c.in-Some.ensures.lawful (λ h e. HeldAs {W = g.row.J-Work.Denot} (g.J.Jobs.plan c.args.self.now.1) (g.J.Jobs.is_work c.args.self.now.1) (g.J.Jobs.given c.args.self.now.1) c.args.self.now.0 h.claim h.work e) (λ h e r. subst (λ (x : ℕ). x < (g.J.Jobs.plan c.args.self.now.1).queries) (sym r.query) r.of_table.below) c.args.q c.in-Some.need c.args.seat.now.token.me.0.stack c.args.chain.now.items c.requires.chain (last_root_below (g.J.Jobs.plan c.args.self.now.1) c.in-Some.ensures.lawful c.args.seat.now.token.me.0.drawn c.args.q c.requires.seat.root) (sym c.in-Some.ensures.need)

pub returns-in-Failed-clause-turn : goal.returns-in-Failed-clause-turn
returns-in-Failed-clause-turn g c =
    let st = c.in-Failed.ensures.step in
    let s = c.args.seat.now in
    let t = c.look.new.seat in
    let looked = forcing_looked (g.J.Jobs.plan c.args.self.now.1) c.args.self.now.0 c.args.q c.in-Some.need st.0 s t c.requires.seat c.in-Failed.ensures.seat st.1 in (
      looked_failed (g.J.Jobs.plan c.args.self.now.1) c.args.self.now.0 c.args.q c.in-Some.need s t c.requires.seat c.in-Failed.ensures.seat (st.1 ∙ ap (look_view s.token.me.0 c.in-Some.need) st.2) (sym c.in-Some.ensures.need),
      match_at {H = Held g.row.J.Denot g.row.J-Answer.Denot g.row.J-Work.Denot} (λ h e. ClaimedAs c.args.self.now.0 (g.J.Jobs.plan c.args.self.now.1).queries h.claim e) s.token.me.0.stack t.token.me.0.stack c.args.chain.now.items looked.1 (match_weaker {H = Held g.row.J.Denot g.row.J-Answer.Denot g.row.J-Work.Denot} (λ h e. HeldAs {W = g.row.J-Work.Denot} (g.J.Jobs.plan c.args.self.now.1) (g.J.Jobs.is_work c.args.self.now.1) (g.J.Jobs.given c.args.self.now.1) c.args.self.now.0 h.claim h.work e) (λ h e. ClaimedAs c.args.self.now.0 (g.J.Jobs.plan c.args.self.now.1).queries h.claim e) (λ h e r. record { of_table = r.of_table; query = r.query }) s.token.me.0.stack c.args.chain.now.items c.requires.chain),
    )

pub next_need-requires-after_bounds : goal.next_need-requires-after_bounds
next_need-requires-after_bounds g c κs within = subst (λ (xs : List (Held g.row.J.Denot g.row.J-Answer.Denot g.row.J-Work.Denot)). Matches {H = Held g.row.J.Denot g.row.J-Answer.Denot g.row.J-Work.Denot} (λ h e. HeldAs {W = g.row.J-Work.Denot} (g.J.Jobs.plan c.args.self.now.1) (g.J.Jobs.is_work c.args.self.now.1) (g.J.Jobs.given c.args.self.now.1) c.args.self.now.0 h.claim h.work e) c.args.seat.now.token.me.0.stack xs) (sym c.deref.ensures.value) c.requires.chain
