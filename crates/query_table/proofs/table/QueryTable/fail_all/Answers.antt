use Rattle.std.proofs.Common.{◌≡◌, ℕ, List, ◌∷◌, true, sym, subst, ap, ◌∙◌, arith}
use Rattle.sched_core.specs.Plan.{has}
use Rattle.sched_core.specs.State.{Entry, below_top}
use Rattle.query_table.specs.declared.force.Held.{Held}
use Rattle.query_table.specs.Steps.{without}
use Rattle.query_table.specs.Chain.{Matches, ClaimedAs, StandsOn}
use Rattle.query_table.proofs.Chains.{match_top, match_none, stands_below, stands_alone, has_first, none_left}
use Rattle.query_table.proofs.table.QueryTable.fail_all.Goals as goal

pub fail-requires-clause-claim : goal.fail-requires-clause-claim
fail-requires-clause-claim g c κs within =
    let top = match_top {H = Held g.row.J.Denot g.row.J-Answer.Denot g.row.J-Work.Denot} (λ h e. ClaimedAs c.args.self.now.0 (g.J.Jobs.plan c.args.self.now.1).queries h.claim e) c.loop-held.seat.token.me.0.stack c.loop-held.chain.items c.pop.new.self.items c.in-Some.held c.loop-held.invariant.chain c.in-Some.ensures.items in
    top.1.1.1.of_table

pub fail-requires-clause-latest : goal.fail-requires-clause-latest
fail-requires-clause-latest g c κs within =
    let top = match_top {H = Held g.row.J.Denot g.row.J-Answer.Denot g.row.J-Work.Denot} (λ h e. ClaimedAs c.args.self.now.0 (g.J.Jobs.plan c.args.self.now.1).queries h.claim e) c.loop-held.seat.token.me.0.stack c.loop-held.chain.items c.pop.new.self.items c.in-Some.held c.loop-held.invariant.chain c.in-Some.ensures.items in
    (top.0.1, (top.1.0, top.1.1.0 ∙ ap (λ (q : ℕ). (q, top.0.1) ∷ top.1.0) top.1.1.1.query))

pub loop-held-preserved : goal.loop-held-preserved
loop-held-preserved g c =
    let top = match_top {H = Held g.row.J.Denot g.row.J-Answer.Denot g.row.J-Work.Denot} (λ h e. ClaimedAs c.args.self.now.0 (g.J.Jobs.plan c.args.self.now.1).queries h.claim e) c.loop-held.seat.token.me.0.stack c.loop-held.chain.items c.pop.new.self.items c.in-Some.held c.loop-held.invariant.chain c.in-Some.ensures.items in
    let i = c.loop-held.invariant.seat in
    let v = c.loop-held.seat.token.me.0 in
    let step = c.fail.ensures.step in
    let rest : c.fail.new.seat.token.me.0.stack ≡ top.1.0 = ap (λ w. w.stack) step ∙ ap below_top top.1.1.0 in
    let stands = subst (λ (es : List Entry). StandsOn c.args.q es) top.1.1.0 i.stands in
    record {
      seat = record {
        of_table = c.fail.ensures.seat;
        free = ap (λ w. w.borrow) step ∙ i.free;
        thieves = ap (λ w. w.thieves) step ∙ ap (without c.in-Some.held.claim.query) i.thieves;
        stands = subst (λ (es : List Entry). StandsOn c.args.q es) (sym rest) (stands_below c.args.q top.0 top.1.0 stands);
        failed = λ none. ap (λ w. has c.args.q w.gone) step
            ∙ (let same = sym top.1.1.1.query ∙ stands_alone c.args.q top.0 top.1.0 stands (sym rest ∙ none) in
            subst (λ (r : ℕ). has r (c.in-Some.held.claim.query ∷ v.gone) ≡ true) same (has_first c.in-Some.held.claim.query v.gone));
      };
      chain = subst (λ (es : List Entry). Matches {H = Held g.row.J.Denot g.row.J-Answer.Denot g.row.J-Work.Denot} (λ h e. ClaimedAs c.args.self.now.0 (g.J.Jobs.plan c.args.self.now.1).queries h.claim e) es c.pop.new.self.items) (sym rest) top.1.1.2;
      drawn = ap (λ w. w.drawn) step ∙ c.loop-held.invariant.drawn;
    }

pub returns-clause-seat : goal.returns-clause-seat
returns-clause-seat g c =
    let i = c.loop-held.invariant in
    record {
      of_table = i.seat.of_table;
      empty = match_none {H = Held g.row.J.Denot g.row.J-Answer.Denot g.row.J-Work.Denot} (λ h e. ClaimedAs c.args.self.now.0 (g.J.Jobs.plan c.args.self.now.1).queries h.claim e) c.loop-held.seat.token.me.0.stack c.loop-held.chain.items i.chain (none_left c.loop-held.chain.items (let left = c.in_default.ensures.cases.0 in let len = c.loop-held.chain.ok.0 in omega arith));
      free = i.seat.free;
      thieves = i.seat.thieves;
    }

pub returns-clause-failed : goal.returns-clause-failed
returns-clause-failed g c =
    let i = c.loop-held.invariant in
    i.seat.failed (match_none {H = Held g.row.J.Denot g.row.J-Answer.Denot g.row.J-Work.Denot} (λ h e. ClaimedAs c.args.self.now.0 (g.J.Jobs.plan c.args.self.now.1).queries h.claim e) c.loop-held.seat.token.me.0.stack c.loop-held.chain.items i.chain (none_left c.loop-held.chain.items (let left = c.in_default.ensures.cases.0 in let len = c.loop-held.chain.ok.0 in omega arith)))
