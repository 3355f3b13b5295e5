use Rattle.std.proofs.Common.{◌≡◌, ℕ, List, [], ◌∷◌, refl, sym, subst, ap}
use Rattle.sched_core.specs.Plan.{IsLawful}
use Rattle.query_table.specs.declared.force.Held.{Held}
use Rattle.query_table.specs.Steps.{without}
use Rattle.query_table.specs.Chain.{Matches, HeldAs, ClaimedAs}
use Rattle.query_table.proofs.Chains.{match_more, match_weaker}
use Rattle.query_table.proofs.Forcing.{match_at, forcing_claimed, gave_up}
use Rattle.query_table.proofs.table.QueryTable.try_claim.Goals as goal

pub fail-requires-clause-latest : goal.fail-requires-clause-latest
fail-requires-clause-latest g c κs within =
    let st = c.in-Won.ensures.step in
    let old = c.args.seat.now.token.me.0.stack in
    let won = forcing_claimed (g.J.Jobs.plan c.args.self.now.1) (subst (λ (j : g.row.J.Denot). IsLawful (g.J.Jobs.plan j)) (ap (λ t. t.1) c.self.view_is) c.self.invariant.3) c.args.self.now.0 c.args.q c.args.need st.0 c.args.seat.now c.claim.new.seat c.requires.seat c.in-Won.ensures.seat st.1 st.2.0 c.requires.next in
    let latest = subst (λ (n : ℕ). c.claim.new.seat.token.me.0.stack ≡ (n, []) ∷ old) (sym st.2.1.query) won.1 in
    ([], (old, latest))

pub returns-in_default-clause-turn : goal.returns-in_default-clause-turn
returns-in_default-clause-turn g c =
    let st = c.in-Won.ensures.step in
    let old = c.args.seat.now.token.me.0.stack in
    let won = forcing_claimed (g.J.Jobs.plan c.args.self.now.1) (subst (λ (j : g.row.J.Denot). IsLawful (g.J.Jobs.plan j)) (ap (λ t. t.1) c.self.view_is) c.self.invariant.3) c.args.self.now.0 c.args.q c.args.need st.0 c.args.seat.now c.claim.new.seat c.requires.seat c.in-Won.ensures.seat st.1 st.2.0 c.requires.next in
    let latest = subst (λ (n : ℕ). c.claim.new.seat.token.me.0.stack ≡ (n, []) ∷ old) (sym st.2.1.query) won.1 in
    let gave = gave_up c.args.self.now.0 c.args.q c.in-Won.claim.query [] old c.claim.new.seat c.fail.new.seat won.0.stands won.0.free (ap (without c.in-Won.claim.query) won.0.thieves) c.fail.ensures.seat c.fail.ensures.step latest in
    let all = match_weaker {H = Held g.row.J.Denot g.row.J-Answer.Denot g.row.J-Work.Denot} (λ h e. HeldAs {W = g.row.J-Work.Denot} (g.J.Jobs.plan c.args.self.now.1) (g.J.Jobs.is_work c.args.self.now.1) (g.J.Jobs.given c.args.self.now.1) c.args.self.now.0 h.claim h.work e) (λ h e. ClaimedAs c.args.self.now.0 (g.J.Jobs.plan c.args.self.now.1).queries h.claim e) (λ h e r. record { of_table = r.of_table; query = r.query }) old c.args.chain.now.items c.requires.chain in
    (gave.0, match_at {H = Held g.row.J.Denot g.row.J-Answer.Denot g.row.J-Work.Denot} (λ h e. ClaimedAs c.args.self.now.0 (g.J.Jobs.plan c.args.self.now.1).queries h.claim e) old c.fail.new.seat.token.me.0.stack c.args.chain.now.items gave.1 all)

pub fail-requires-then-is_err-clause-latest : goal.fail-requires-then-is_err-clause-latest
fail-requires-then-is_err-clause-latest g c κs within =
    let st = c.in-Won.ensures.step in
    let old = c.args.seat.now.token.me.0.stack in
    let won = forcing_claimed (g.J.Jobs.plan c.args.self.now.1) (subst (λ (j : g.row.J.Denot). IsLawful (g.J.Jobs.plan j)) (ap (λ t. t.1) c.self.view_is) c.self.invariant.3) c.args.self.now.0 c.args.q c.args.need st.0 c.args.seat.now c.claim.new.seat c.requires.seat c.in-Won.ensures.seat st.1 st.2.0 c.requires.next in
    let latest = subst (λ (n : ℕ). c.claim.new.seat.token.me.0.stack ≡ (n, []) ∷ old) (sym st.2.1.query) won.1 in
    ([], (old, latest))

pub returns-then-is_err-clause-turn : goal.returns-then-is_err-clause-turn
returns-then-is_err-clause-turn g c =
    let st = c.in-Won.ensures.step in
    let old = c.args.seat.now.token.me.0.stack in
    let won = forcing_claimed (g.J.Jobs.plan c.args.self.now.1) (subst (λ (j : g.row.J.Denot). IsLawful (g.J.Jobs.plan j)) (ap (λ t. t.1) c.self.view_is) c.self.invariant.3) c.args.self.now.0 c.args.q c.args.need st.0 c.args.seat.now c.claim.new.seat c.requires.seat c.in-Won.ensures.seat st.1 st.2.0 c.requires.next in
    let latest = subst (λ (n : ℕ). c.claim.new.seat.token.me.0.stack ≡ (n, []) ∷ old) (sym st.2.1.query) won.1 in
    let gave = gave_up c.args.self.now.0 c.args.q c.in-Won.claim.query [] old c.claim.new.seat c.fail-then-is_err.new.seat won.0.stands won.0.free (ap (without c.in-Won.claim.query) won.0.thieves) c.fail-then-is_err.ensures.seat c.fail-then-is_err.ensures.step latest in
    let all = match_weaker {H = Held g.row.J.Denot g.row.J-Answer.Denot g.row.J-Work.Denot} (λ h e. HeldAs {W = g.row.J-Work.Denot} (g.J.Jobs.plan c.args.self.now.1) (g.J.Jobs.is_work c.args.self.now.1) (g.J.Jobs.given c.args.self.now.1) c.args.self.now.0 h.claim h.work e) (λ h e. ClaimedAs c.args.self.now.0 (g.J.Jobs.plan c.args.self.now.1).queries h.claim e) (λ h e r. record { of_table = r.of_table; query = r.query }) old c.args.chain.now.items c.requires.chain in
    (gave.0, match_at {H = Held g.row.J.Denot g.row.J-Answer.Denot g.row.J-Work.Denot} (λ h e. ClaimedAs c.args.self.now.0 (g.J.Jobs.plan c.args.self.now.1).queries h.claim e) old c.fail-then-is_err.new.seat.token.me.0.stack c.reserve.new.self.items gave.1 (subst (λ (xs : List (Held g.row.J.Denot g.row.J-Answer.Denot g.row.J-Work.Denot)). Matches {H = Held g.row.J.Denot g.row.J-Answer.Denot g.row.J-Work.Denot} (λ h e. ClaimedAs c.args.self.now.0 (g.J.Jobs.plan c.args.self.now.1).queries h.claim e) old xs) (sym c.reserve.ensures.items) all))

pub returns-clause-turn : goal.returns-clause-turn
returns-clause-turn g c =
    let st = c.in-Won.ensures.step in
    let old = c.args.seat.now.token.me.0.stack in
    let won = forcing_claimed (g.J.Jobs.plan c.args.self.now.1) (subst (λ (j : g.row.J.Denot). IsLawful (g.J.Jobs.plan j)) (ap (λ t. t.1) c.self.view_is) c.self.invariant.3) c.args.self.now.0 c.args.q c.args.need st.0 c.args.seat.now c.claim.new.seat c.requires.seat c.in-Won.ensures.seat st.1 st.2.0 c.requires.next in
    let latest = subst (λ (n : ℕ). c.claim.new.seat.token.me.0.stack ≡ (n, []) ∷ old) (sym st.2.1.query) won.1 in
    let jobs = ap (λ t. t.1) c.self.view_is in
    let before = subst (λ (xs : List (Held g.row.J.Denot g.row.J-Answer.Denot g.row.J-Work.Denot)). Matches {H = Held g.row.J.Denot g.row.J-Answer.Denot g.row.J-Work.Denot} (λ h e. HeldAs {W = g.row.J-Work.Denot} (g.J.Jobs.plan c.args.self.now.1) (g.J.Jobs.is_work c.args.self.now.1) (g.J.Jobs.given c.args.self.now.1) c.args.self.now.0 h.claim h.work e) old xs) (sym c.reserve.ensures.items) c.requires.chain in (
      won.0,
      match_at {H = Held g.row.J.Denot g.row.J-Answer.Denot g.row.J-Work.Denot} (λ h e. HeldAs {W = g.row.J-Work.Denot} (g.J.Jobs.plan c.args.self.now.1) (g.J.Jobs.is_work c.args.self.now.1) (g.J.Jobs.given c.args.self.now.1) c.args.self.now.0 h.claim h.work e) ((c.args.need, []) ∷ old) c.claim.new.seat.token.me.0.stack c.push_reserved.new.self.items won.1
          (match_more {H = Held g.row.J.Denot g.row.J-Answer.Denot g.row.J-Work.Denot} (λ h e. HeldAs {W = g.row.J-Work.Denot} (g.J.Jobs.plan c.args.self.now.1) (g.J.Jobs.is_work c.args.self.now.1) (g.J.Jobs.given c.args.self.now.1) c.args.self.now.0 h.claim h.work e) old c.push_reserved.new.self.items c.reserve.new.self.items _ (c.args.need, []) before c.push_reserved.ensures.items (record {
            of_table = st.2.1.of_table;
            empty = st.2.1.empty;
            begun = subst (λ (n : ℕ). g.J.Jobs.is_work c.args.self.now.1 n c.in-Ok.work) (sym st.2.1.query) (subst (λ (j : g.row.J.Denot). g.J.Jobs.is_work j c.args.need c.in-Ok.work) jobs c.in-Ok.ensures.0);
            query = sym st.2.1.query;
            has_given = sym (subst (λ (n : ℕ). g.J.Jobs.given c.args.self.now.1 n c.in-Ok.work ≡ []) (sym st.2.1.query) (subst (λ (j : g.row.J.Denot). g.J.Jobs.given j c.args.need c.in-Ok.work ≡ []) jobs c.in-Ok.ensures.1));
            kept = λ s steals. refl;
          })),
    )
