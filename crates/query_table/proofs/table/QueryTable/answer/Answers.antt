use Rattle.std.proofs.Common.{◌<◌, List, [], ◌∷◌, ◌++◌, refl, sym, subst, ap, ◌∙◌}
use Rattle.sched_core.specs.State.{Entry}
use Rattle.query_table.specs.declared.token.Claim.{Claim}
use Rattle.query_table.specs.declared.force.Held.{Held}
use Rattle.query_table.specs.Steps.{publish_view, IsRipe}
use Rattle.query_table.specs.Answers.{IsClaimOf}
use Rattle.query_table.specs.Chain.{HeldAs, ClaimedAs, StandsOn}
use Rattle.query_table.proofs.Chains.{match_top, match_weaker, top_is}
use Rattle.query_table.proofs.Forcing.{match_at, gave_up, ripe_taken, forcing_published}
use Rattle.query_table.proofs.table.QueryTable.answer.Goals as goal

pub take_stolen-taken-requires-clause-claim : goal.take_stolen-taken-requires-clause-claim
take_stolen-taken-requires-clause-claim g c κs within =
    let top = match_top {H = Held g.row.J.Denot g.row.J-Answer.Denot g.row.J-Work.Denot} (λ h e. HeldAs {W = g.row.J-Work.Denot} (g.J.Jobs.plan c.args.self.now.1) (g.J.Jobs.is_work c.args.self.now.1) (g.J.Jobs.given c.args.self.now.1) c.args.self.now.0 h.claim h.work e) c.args.seat.now.token.me.0.stack (c.args.chain.now.items ++ c.args.held ∷ []) c.args.chain.now.items c.args.held c.requires.chain refl in
    let e = top.0 in
    let rest = top.1.0 in
    let k = top.1.1.1 in
    k.of_table

pub take_stolen-taken-requires-clause-top : goal.take_stolen-taken-requires-clause-top
take_stolen-taken-requires-clause-top g c κs within =
    let top = match_top {H = Held g.row.J.Denot g.row.J-Answer.Denot g.row.J-Work.Denot} (λ h e. HeldAs {W = g.row.J-Work.Denot} (g.J.Jobs.plan c.args.self.now.1) (g.J.Jobs.is_work c.args.self.now.1) (g.J.Jobs.given c.args.self.now.1) c.args.self.now.0 h.claim h.work e) c.args.seat.now.token.me.0.stack (c.args.chain.now.items ++ c.args.held ∷ []) c.args.chain.now.items c.args.held c.requires.chain refl in
    let e = top.0 in
    let rest = top.1.0 in
    let k = top.1.1.1 in
    let given = g.J.Jobs.given c.args.self.now.1 c.args.held.claim.query c.args.held.work in
    let whole = top_is e c.args.held.claim.query given rest c.args.seat.now.token.me.0.stack top.1.1.0 k.query k.has_given in
    (given, (rest, (whole, c.requires.seen)))

pub finish-requires-clause-work : goal.finish-requires-clause-work
finish-requires-clause-work g c =
    let top = match_top {H = Held g.row.J.Denot g.row.J-Answer.Denot g.row.J-Work.Denot} (λ h e. HeldAs {W = g.row.J-Work.Denot} (g.J.Jobs.plan c.args.self.now.1) (g.J.Jobs.is_work c.args.self.now.1) (g.J.Jobs.given c.args.self.now.1) c.args.self.now.0 h.claim h.work e) c.args.seat.now.token.me.0.stack (c.args.chain.now.items ++ c.args.held ∷ []) c.args.chain.now.items c.args.held c.requires.chain refl in
    let e = top.0 in
    let rest = top.1.0 in
    let k = top.1.1.1 in
    let jobs = ap (λ t. t.1) c.self.view_is in
    subst (λ (j : g.row.J.Denot). (c.args.held.claim.query < (g.J.Jobs.plan j).queries) × g.J.Jobs.is_work j c.args.held.claim.query c.args.held.work) (sym jobs) (k.of_table.below, k.begun)

pub fail-requires-clause-claim : goal.fail-requires-clause-claim
fail-requires-clause-claim g c κs within =
    let top = match_top {H = Held g.row.J.Denot g.row.J-Answer.Denot g.row.J-Work.Denot} (λ h e. HeldAs {W = g.row.J-Work.Denot} (g.J.Jobs.plan c.args.self.now.1) (g.J.Jobs.is_work c.args.self.now.1) (g.J.Jobs.given c.args.self.now.1) c.args.self.now.0 h.claim h.work e) c.args.seat.now.token.me.0.stack (c.args.chain.now.items ++ c.args.held ∷ []) c.args.chain.now.items c.args.held c.requires.chain refl in
    let e = top.0 in
    let rest = top.1.0 in
    let k = top.1.1.1 in
    k.of_table

pub fail-requires-clause-latest : goal.fail-requires-clause-latest
fail-requires-clause-latest g c κs within =
    let top = match_top {H = Held g.row.J.Denot g.row.J-Answer.Denot g.row.J-Work.Denot} (λ h e. HeldAs {W = g.row.J-Work.Denot} (g.J.Jobs.plan c.args.self.now.1) (g.J.Jobs.is_work c.args.self.now.1) (g.J.Jobs.given c.args.self.now.1) c.args.self.now.0 h.claim h.work e) c.args.seat.now.token.me.0.stack (c.args.chain.now.items ++ c.args.held ∷ []) c.args.chain.now.items c.args.held c.requires.chain refl in
    let e = top.0 in
    let rest = top.1.0 in
    let k = top.1.1.1 in
    let given = g.J.Jobs.given c.args.self.now.1 c.args.held.claim.query c.args.held.work in
    let whole = top_is e c.args.held.claim.query given rest c.args.seat.now.token.me.0.stack top.1.1.0 k.query k.has_given in
    let u = c.take_stolen-taken.new.seat in
    let h = c.take_stolen-taken.ensures.view in
    (given, (rest, h.stack ∙ whole))

pub returns-in_default-clause-turn : goal.returns-in_default-clause-turn
returns-in_default-clause-turn g c =
    let top = match_top {H = Held g.row.J.Denot g.row.J-Answer.Denot g.row.J-Work.Denot} (λ h e. HeldAs {W = g.row.J-Work.Denot} (g.J.Jobs.plan c.args.self.now.1) (g.J.Jobs.is_work c.args.self.now.1) (g.J.Jobs.given c.args.self.now.1) c.args.self.now.0 h.claim h.work e) c.args.seat.now.token.me.0.stack (c.args.chain.now.items ++ c.args.held ∷ []) c.args.chain.now.items c.args.held c.requires.chain refl in
    let e = top.0 in
    let rest = top.1.0 in
    let k = top.1.1.1 in
    let given = g.J.Jobs.given c.args.self.now.1 c.args.held.claim.query c.args.held.work in
    let whole = top_is e c.args.held.claim.query given rest c.args.seat.now.token.me.0.stack top.1.1.0 k.query k.has_given in
    let u = c.take_stolen-taken.new.seat in
    let h = c.take_stolen-taken.ensures.view in
    let gave = gave_up c.args.self.now.0 c.args.q c.args.held.claim.query given rest u c.fail.new.seat (subst (λ (es : List Entry). StandsOn c.args.q es) (sym h.stack) c.requires.seat.stands) (h.free ∙ c.requires.seat.free) h.others c.fail.ensures.seat c.fail.ensures.step (h.stack ∙ whole) in
    (gave.0, match_at {H = Held g.row.J.Denot g.row.J-Answer.Denot g.row.J-Work.Denot} (λ h e. ClaimedAs c.args.self.now.0 (g.J.Jobs.plan c.args.self.now.1).queries h.claim e) rest c.fail.new.seat.token.me.0.stack c.args.chain.now.items gave.1 (match_weaker {H = Held g.row.J.Denot g.row.J-Answer.Denot g.row.J-Work.Denot} (λ h e. HeldAs {W = g.row.J-Work.Denot} (g.J.Jobs.plan c.args.self.now.1) (g.J.Jobs.is_work c.args.self.now.1) (g.J.Jobs.given c.args.self.now.1) c.args.self.now.0 h.claim h.work e) (λ h e. ClaimedAs c.args.self.now.0 (g.J.Jobs.plan c.args.self.now.1).queries h.claim e) (λ h e r. record { of_table = r.of_table; query = r.query }) rest c.args.chain.now.items top.1.1.2))

pub put-requires-clause-claim : goal.put-requires-clause-claim
put-requires-clause-claim g c κs within =
    let top = match_top {H = Held g.row.J.Denot g.row.J-Answer.Denot g.row.J-Work.Denot} (λ h e. HeldAs {W = g.row.J-Work.Denot} (g.J.Jobs.plan c.args.self.now.1) (g.J.Jobs.is_work c.args.self.now.1) (g.J.Jobs.given c.args.self.now.1) c.args.self.now.0 h.claim h.work e) c.args.seat.now.token.me.0.stack (c.args.chain.now.items ++ c.args.held ∷ []) c.args.chain.now.items c.args.held c.requires.chain refl in
    let e = top.0 in
    let rest = top.1.0 in
    let k = top.1.1.1 in
    k.of_table

pub put-requires-clause-empty : goal.put-requires-clause-empty
put-requires-clause-empty g c κs within =
    let top = match_top {H = Held g.row.J.Denot g.row.J-Answer.Denot g.row.J-Work.Denot} (λ h e. HeldAs {W = g.row.J-Work.Denot} (g.J.Jobs.plan c.args.self.now.1) (g.J.Jobs.is_work c.args.self.now.1) (g.J.Jobs.given c.args.self.now.1) c.args.self.now.0 h.claim h.work e) c.args.seat.now.token.me.0.stack (c.args.chain.now.items ++ c.args.held ∷ []) c.args.chain.now.items c.args.held c.requires.chain refl in
    let e = top.0 in
    let rest = top.1.0 in
    let k = top.1.1.1 in
    k.empty

pub publish-requires-clause-claim : goal.publish-requires-clause-claim
publish-requires-clause-claim g c κs within =
    let top = match_top {H = Held g.row.J.Denot g.row.J-Answer.Denot g.row.J-Work.Denot} (λ h e. HeldAs {W = g.row.J-Work.Denot} (g.J.Jobs.plan c.args.self.now.1) (g.J.Jobs.is_work c.args.self.now.1) (g.J.Jobs.given c.args.self.now.1) c.args.self.now.0 h.claim h.work e) c.args.seat.now.token.me.0.stack (c.args.chain.now.items ++ c.args.held ∷ []) c.args.chain.now.items c.args.held c.requires.chain refl in
    let e = top.0 in
    let rest = top.1.0 in
    let k = top.1.1.1 in
    subst (λ (x : Claim). IsClaimOf c.args.self.now.0 (g.J.Jobs.plan c.args.self.now.1).queries x) (sym c.put.ensures) (record { same = k.of_table.same; below = k.of_table.below })

pub publish-requires-clause-ripe : goal.publish-requires-clause-ripe
publish-requires-clause-ripe g c κs within =
    let top = match_top {H = Held g.row.J.Denot g.row.J-Answer.Denot g.row.J-Work.Denot} (λ h e. HeldAs {W = g.row.J-Work.Denot} (g.J.Jobs.plan c.args.self.now.1) (g.J.Jobs.is_work c.args.self.now.1) (g.J.Jobs.given c.args.self.now.1) c.args.self.now.0 h.claim h.work e) c.args.seat.now.token.me.0.stack (c.args.chain.now.items ++ c.args.held ∷ []) c.args.chain.now.items c.args.held c.requires.chain refl in
    let e = top.0 in
    let rest = top.1.0 in
    let k = top.1.1.1 in
    let given = g.J.Jobs.given c.args.self.now.1 c.args.held.claim.query c.args.held.work in
    let whole = top_is e c.args.held.claim.query given rest c.args.seat.now.token.me.0.stack top.1.1.0 k.query k.has_given in
    let u = c.take_stolen-taken.new.seat in
    let h = c.take_stolen-taken.ensures.view in
    subst (λ (x : Claim). IsRipe (g.J.Jobs.plan c.args.self.now.1) u.token.me.0 x.query) (sym c.put.ensures) (ripe_taken (g.J.Jobs.plan c.args.self.now.1) c.args.seat.now.token.me.0 u.token.me.0 c.args.held.claim.query given rest h whole c.requires.seat.free c.requires.seen)

pub returns-else-is_empty-clause-turn : goal.returns-else-is_empty-clause-turn
returns-else-is_empty-clause-turn g c =
    let top = match_top {H = Held g.row.J.Denot g.row.J-Answer.Denot g.row.J-Work.Denot} (λ h e. HeldAs {W = g.row.J-Work.Denot} (g.J.Jobs.plan c.args.self.now.1) (g.J.Jobs.is_work c.args.self.now.1) (g.J.Jobs.given c.args.self.now.1) c.args.self.now.0 h.claim h.work e) c.args.seat.now.token.me.0.stack (c.args.chain.now.items ++ c.args.held ∷ []) c.args.chain.now.items c.args.held c.requires.chain refl in
    let e = top.0 in
    let rest = top.1.0 in
    let k = top.1.1.1 in
    let given = g.J.Jobs.given c.args.self.now.1 c.args.held.claim.query c.args.held.work in
    let whole = top_is e c.args.held.claim.query given rest c.args.seat.now.token.me.0.stack top.1.1.0 k.query k.has_given in
    let u = c.take_stolen-taken.new.seat in
    let h = c.take_stolen-taken.ensures.view in
    let done = forcing_published (g.J.Jobs.plan c.args.self.now.1) c.args.self.now.0 c.args.q c.args.held.claim.query given rest c.args.seat.now u c.publish.new.seat c.requires.seat whole h c.publish.ensures.seat
    (c.publish.ensures.step ∙ ap (λ (x : Claim). publish_view u.token.me.0 x.query) c.put.ensures) in
    (done.0, match_at {H = Held g.row.J.Denot g.row.J-Answer.Denot g.row.J-Work.Denot} (λ h e. HeldAs {W = g.row.J-Work.Denot} (g.J.Jobs.plan c.args.self.now.1) (g.J.Jobs.is_work c.args.self.now.1) (g.J.Jobs.given c.args.self.now.1) c.args.self.now.0 h.claim h.work e) rest c.publish.new.seat.token.me.0.stack c.args.chain.now.items done.1 top.1.1.2)
