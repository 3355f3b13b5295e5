use Rattle.std.proofs.Common.{List, sym, subst, ap, ◌∙◌}
use Rattle.std.specs.Prelude.{Some}
use Rattle.sched_core.specs.Plan.{has}
use Rattle.sched_core.specs.State.{Entry, next_of_top}
use Rattle.query_table.specs.declared.force.Held.{Held}
use Rattle.query_table.specs.Chain.{Matches, HeldAs}
use Rattle.query_table.proofs.Chains.{match_top, top_is}
use Rattle.query_table.proofs.Forcing.{all_seen}
use Rattle.query_table.proofs.table.QueryTable.go_on.Goals as goal

pub read-requires-clause-chain : goal.read-requires-clause-chain
read-requires-clause-chain g c κs within = subst (λ (xs : List (Held g.row.J.Denot g.row.J-Answer.Denot g.row.J-Work.Denot)). Matches {H = Held g.row.J.Denot g.row.J-Answer.Denot g.row.J-Work.Denot} (λ h e. HeldAs {W = g.row.J-Work.Denot} (g.J.Jobs.plan c.args.self.now.1) (g.J.Jobs.is_work c.args.self.now.1) (g.J.Jobs.given c.args.self.now.1) c.args.self.now.0 h.claim h.work e) c.args.seat.now.token.me.0.stack xs) c.in-Some.ensures.items c.requires.chain

pub answer-requires-clause-chain : goal.answer-requires-clause-chain
answer-requires-clause-chain g c κs within = subst (λ (xs : List (Held g.row.J.Denot g.row.J-Answer.Denot g.row.J-Work.Denot)). Matches {H = Held g.row.J.Denot g.row.J-Answer.Denot g.row.J-Work.Denot} (λ h e. HeldAs {W = g.row.J-Work.Denot} (g.J.Jobs.plan c.args.self.now.1) (g.J.Jobs.is_work c.args.self.now.1) (g.J.Jobs.given c.args.self.now.1) c.args.self.now.0 h.claim h.work e) c.args.seat.now.token.me.0.stack xs) c.in-Some.ensures.items c.requires.chain

pub answer-requires-clause-seen : goal.answer-requires-clause-seen
answer-requires-clause-seen g c κs within =
    let held = c.in-Some.held in
    let top = match_top {H = Held g.row.J.Denot g.row.J-Answer.Denot g.row.J-Work.Denot} (λ h e. HeldAs {W = g.row.J-Work.Denot} (g.J.Jobs.plan c.args.self.now.1) (g.J.Jobs.is_work c.args.self.now.1) (g.J.Jobs.given c.args.self.now.1) c.args.self.now.0 h.claim h.work e) c.args.seat.now.token.me.0.stack c.args.chain.now.items c.pop.new.self.items held c.requires.chain c.in-Some.ensures.items in
    let k = top.1.1.1 in
    let given = g.J.Jobs.given c.args.self.now.1 held.claim.query held.work in
    let whole = top_is top.0 held.claim.query given top.1.0 c.args.seat.now.token.me.0.stack top.1.1.0 k.query k.has_given in
    all_seen (g.J.Jobs.plan c.args.self.now.1) c.in-None.ensures.lawful c.args.seat.now.token.me.0 held.claim.query given c.args.need
    (ap (λ (es : List Entry). next_of_top (g.J.Jobs.plan c.args.self.now.1) es (Some c.args.q)) (sym whole) ∙ c.requires.next) c.in-None.ensures.read c.requires.seen
    (λ s steals. ap (has s) (sym k.has_given) ∙ k.kept s (ap (g.J.Jobs.plan c.args.self.now.1).steals k.query ∙ steals))
