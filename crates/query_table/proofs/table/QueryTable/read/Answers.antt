use Rattle.std.proofs.Common.{◌≡◌, ℕ, List, [], ◌∷◌, ◌++◌, refl, sym, subst, ap, ◌∙◌}
use Rattle.std.specs.Prelude.{Some}
use Rattle.query_table.specs.declared.force.Held.{Held}
use Rattle.query_table.specs.Steps.{release_view}
use Rattle.query_table.specs.Chain.{HeldAs, ClaimedAs}
use Rattle.query_table.proofs.Chains.{match_top, match_more, match_weaker}
use Rattle.query_table.proofs.Forcing.{match_at, giving_up, forcing_given, kept_more}
use Rattle.query_table.proofs.table.QueryTable.read.Goals as goal

pub returns-in-Ok-clause-turn : goal.returns-in-Ok-clause-turn
returns-in-Ok-clause-turn g c =
    let top = match_top {H = Held g.row.J.Denot g.row.J-Answer.Denot g.row.J-Work.Denot} (λ h e. HeldAs {W = g.row.J-Work.Denot} (g.J.Jobs.plan c.args.self.now.1) (g.J.Jobs.is_work c.args.self.now.1) (g.J.Jobs.given c.args.self.now.1) c.args.self.now.0 h.claim h.work e) c.args.seat.now.token.me.0.stack (c.args.chain.now.items ++ c.args.held ∷ []) c.args.chain.now.items c.args.held c.requires.chain refl in
    let e = top.0 in
    let rest = top.1.0 in
    let k = top.1.1.1 in
    let lent = c.borrow-borrow.ensures.step in
    let back = c.release.ensures.step in
    let given = forcing_given (g.J.Jobs.plan c.args.self.now.1) c.args.self.now.0 c.args.q e.0 c.args.need lent.0 back.0 e.1 rest c.args.seat.now c.borrow-borrow.new.seat c.release.new.seat c.requires.seat top.1.1.0 lent.1 c.release.ensures.seat
    (back.1 ∙ ap (λ (n : ℕ). release_view c.borrow-borrow.new.seat.token.me.0 n back.0) c.borrow-borrow.ensures.borrow.1) in
    let jobs = ap (λ t. t.1) c.self.view_is in (
      given.0,
      match_at {H = Held g.row.J.Denot g.row.J-Answer.Denot g.row.J-Work.Denot} (λ h e. HeldAs {W = g.row.J-Work.Denot} (g.J.Jobs.plan c.args.self.now.1) (g.J.Jobs.is_work c.args.self.now.1) (g.J.Jobs.given c.args.self.now.1) c.args.self.now.0 h.claim h.work e) ((e.0, e.1 ++ c.args.need ∷ []) ∷ rest) c.release.new.seat.token.me.0.stack c.push_reserved.new.self.items given.1
          (match_more {H = Held g.row.J.Denot g.row.J-Answer.Denot g.row.J-Work.Denot} (λ h e. HeldAs {W = g.row.J-Work.Denot} (g.J.Jobs.plan c.args.self.now.1) (g.J.Jobs.is_work c.args.self.now.1) (g.J.Jobs.given c.args.self.now.1) c.args.self.now.0 h.claim h.work e) rest c.push_reserved.new.self.items c.args.chain.now.items _ (e.0, e.1 ++ c.args.need ∷ []) top.1.1.2 c.push_reserved.ensures.items (record {
            of_table = k.of_table;
            empty = k.empty;
            begun = subst (λ (j : g.row.J.Denot). g.J.Jobs.is_work j c.args.held.claim.query c.give-given.new.work) jobs c.in-Ok.ensures.0;
            query = k.query;
            has_given = ap (λ (ns : List ℕ). ns ++ c.args.need ∷ []) k.has_given ∙ sym (subst (λ (j : g.row.J.Denot). g.J.Jobs.given j c.args.held.claim.query c.give-given.new.work ≡ g.J.Jobs.given j c.args.held.claim.query c.args.held.work ++ c.args.need ∷ []) jobs c.in-Ok.ensures.1);
            kept = λ s steals. kept_more e.1 c.args.need s (k.kept s steals) (λ same. c.requires.kept (ap (g.J.Jobs.plan c.args.self.now.1).steals (sym k.query) ∙ (steals ∙ ap (λ (x : ℕ). Some x) same)));
          })),
    )

pub returns-in-Err-clause-turn : goal.returns-in-Err-clause-turn
returns-in-Err-clause-turn g c =
    let top = match_top {H = Held g.row.J.Denot g.row.J-Answer.Denot g.row.J-Work.Denot} (λ h e. HeldAs {W = g.row.J-Work.Denot} (g.J.Jobs.plan c.args.self.now.1) (g.J.Jobs.is_work c.args.self.now.1) (g.J.Jobs.given c.args.self.now.1) c.args.self.now.0 h.claim h.work e) c.args.seat.now.token.me.0.stack (c.args.chain.now.items ++ c.args.held ∷ []) c.args.chain.now.items c.args.held c.requires.chain refl in
    let e = top.0 in
    let rest = top.1.0 in
    let k = top.1.1.1 in
    let lent = c.borrow-borrow.ensures.step in
    let back = c.release.ensures.step in
    let given = forcing_given (g.J.Jobs.plan c.args.self.now.1) c.args.self.now.0 c.args.q e.0 c.args.need lent.0 back.0 e.1 rest c.args.seat.now c.borrow-borrow.new.seat c.release.new.seat c.requires.seat top.1.1.0 lent.1 c.release.ensures.seat
    (back.1 ∙ ap (λ (n : ℕ). release_view c.borrow-borrow.new.seat.token.me.0 n back.0) c.borrow-borrow.ensures.borrow.1) in (
      giving_up (g.J.Jobs.plan c.args.self.now.1) c.args.self.now.0 c.args.q c.release.new.seat (e.0, e.1 ++ c.args.need ∷ []) rest given.0 given.1,
      match_at {H = Held g.row.J.Denot g.row.J-Answer.Denot g.row.J-Work.Denot} (λ h e. ClaimedAs c.args.self.now.0 (g.J.Jobs.plan c.args.self.now.1).queries h.claim e) ((e.0, e.1 ++ c.args.need ∷ []) ∷ rest) c.release.new.seat.token.me.0.stack c.push_reserved.new.self.items given.1
          (match_more {H = Held g.row.J.Denot g.row.J-Answer.Denot g.row.J-Work.Denot} (λ h e. ClaimedAs c.args.self.now.0 (g.J.Jobs.plan c.args.self.now.1).queries h.claim e) rest c.push_reserved.new.self.items c.args.chain.now.items _ (e.0, e.1 ++ c.args.need ∷ [])
          (match_weaker {H = Held g.row.J.Denot g.row.J-Answer.Denot g.row.J-Work.Denot} (λ h e. HeldAs {W = g.row.J-Work.Denot} (g.J.Jobs.plan c.args.self.now.1) (g.J.Jobs.is_work c.args.self.now.1) (g.J.Jobs.given c.args.self.now.1) c.args.self.now.0 h.claim h.work e) (λ h e. ClaimedAs c.args.self.now.0 (g.J.Jobs.plan c.args.self.now.1).queries h.claim e) (λ h e r. record { of_table = r.of_table; query = r.query }) rest c.args.chain.now.items top.1.1.2) c.push_reserved.ensures.items (record { of_table = k.of_table; query = k.query })),
    )
