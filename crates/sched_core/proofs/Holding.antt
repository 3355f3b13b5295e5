-- The works and answers that a weave holds, over each event.
use Rattle.std.proofs.Common.{◌≡◌, ◌≢◌, ℕ, ◌+◌, ◌-◌, ◌<◌, true, false, List, [], ◌∷◌, ◌++◌, length, inl, inr, refl, sym, subst, ap, ◌∙◌, arith, slice_set}
use Rattle.std.specs.Prelude.{Option, Some, None, slice_get}
use Rattle.std.proofs.lemmas.Bool.Decides.{nat_tests}
use Rattle.sched_core.specs.declared.Status.{Status}
use Rattle.sched_core.specs.declared.Status.TheVariants.{Unclaimed, Claimed, Done, Failed, Stolen}
use Rattle.sched_core.specs.Plan.{Plan, IsLawful, has}
use Rattle.sched_core.specs.State.{State, Entry, upd, queries_of, done, untouched, saw, give, below_top, borrowed_more, borrowed_less, claimed_by, borrowed_by, released_by, stolen_by, published_by, drawn_by, MayClaim, MayPublish}
use Rattle.sched_core.specs.Good.{Good, IsOnce}
use Rattle.sched_core.specs.Held.{HasWorks, Holds, without}
use Rattle.sched_core.proofs.Upd.{upd_tells, upd_at}
use Rattle.sched_core.proofs.Lists.{bool_tells}
use Rattle.sched_core.proofs.Listed.{set_same, set_else, set_length}
use Rattle.sched_core.proofs.Steals.{top_claimed}

has_not : (x y : ℕ) (ys : List ℕ) → has x (y ∷ ys) ≡ false → (x ≢ y) × (has x ys ≡ false)
has_not x y ys h = (λ e. grind (arith, nat_tests), grind (arith, nat_tests))

pub more_done : (s : Status) → done (borrowed_more s) ≡ done s
more_done Unclaimed = refl
more_done (Claimed w) = refl
more_done (Done b) = refl
more_done Failed = refl
more_done Stolen = refl

pub less_done : (s : Status) → done (borrowed_less s) ≡ done s
less_done Unclaimed = refl
less_done (Claimed w) = refl
less_done (Done b) = refl
less_done Failed = refl
less_done Stolen = refl

-- a change of one status, and what it leaves of each
module _ (c : State) (q : ℕ) (st : Status) where
  else_done : (r : ℕ) → done st ≡ false → done (upd c.status q st r) ≡ true → (r ≢ q) × (done (c.status r) ≡ true)
  else_done r nay d = elim (upd_tells c.status q st r) [
    | inl e ↦ absurd (let x = sym (ap done e.1) ∙ d in (cc))
    | inr ne ↦ (ne.0, sym (ap done ne.1) ∙ d)
  ]

  same_done : (r : ℕ) → done st ≡ done (c.status q) → done (upd c.status q st r) ≡ true → done (c.status r) ≡ true
  same_done r same d = elim (upd_tells c.status q st r) [
    | inl e ↦ subst (λ (x : ℕ). done (c.status x) ≡ true) (sym e.0) (sym same ∙ (sym (ap done e.1) ∙ d))
    | inr ne ↦ sym (ap done ne.1) ∙ d
  ]

  else_is : (r : ℕ) (t : Status) → st ≢ t → upd c.status q st r ≡ t → (r ≢ q) × (c.status r ≡ t)
  else_is r t nay e = elim (upd_tells c.status q st r) [
    | inl k ↦ absurd (nay (sym k.1 ∙ e))
    | inr k ↦ (k.0, sym k.1 ∙ e)
  ]

more_is : (s t : Status) → ((b : ℕ) → t ≢ Done b) → borrowed_more s ≡ t → s ≡ t
more_is Unclaimed t nay e = e
more_is (Claimed w) t nay e = e
more_is (Done b) t nay e = absurd (nay (b + 1) (sym e))
more_is Failed t nay e = e
more_is Stolen t nay e = e

less_is : (s t : Status) → ((b : ℕ) → t ≢ Done b) → borrowed_less s ≡ t → s ≡ t
less_is Unclaimed t nay e = e
less_is (Claimed w) t nay e = e
less_is (Done b) t nay e = absurd (nay (b - 1) (sym e))
less_is Failed t nay e = e
less_is Stolen t nay e = e

module _ {W A : Type 0} (is_work : ℕ → W → Type 0) (given : ℕ → W → List ℕ) (out : ℕ → A) where
  works_else : (works : List (Option W)) (q : ℕ) (x : Option W) (es : List Entry) → has q (queries_of es) ≡ false → HasWorks is_work given works es → HasWorks is_work given (slice_set works q x) es
  works_else works q x [] nay h = tt
  works_else works q x (e ∷ es) nay h =
      let k = has_not q e.0 (queries_of es) nay in
      ((h.0.0, set_else works q e.0 x (λ r. k.0 (sym r)) ∙ h.0.1, h.0.2, h.0.3), works_else works q x es k.1 h.1)

  module _ (p : Plan) (l : IsLawful p) (c : State) (g : Good p c) (works : List (Option W)) (answers : List (Option A)) (h : Holds is_work given out p c works answers) where
    -- a query that another worker's stack has isn't q
    not_in : (v q w : ℕ) → v ≢ w → c.status q ≡ Claimed w → has q (queries_of (c.stack v)) ≡ false
    not_in v q w ne e = elim (bool_tells (has q (queries_of (c.stack v)))) [
      | inl i ↦ absurd (let k = g.standing v q i in ne (claimed_one (sym k ∙ e)))
      | inr o ↦ o
    ]
      where
        claimed_one : Claimed v ≡ Claimed w → v ≡ w
        claimed_one e = (cc)

    none_in : (v q : ℕ) → c.status q ≡ Unclaimed → has q (queries_of (c.stack v)) ≡ false
    none_in v q e = elim (bool_tells (has q (queries_of (c.stack v)))) [
      | inl i ↦ absurd (let k = g.standing v q i in (cc))
      | inr o ↦ o
    ]

    pub hold_claim : (w q : ℕ) → MayClaim p c w q → (x : W) → is_work q x → given q x ≡ [] → Holds is_work given out p (claimed_by c w q) (slice_set works q (Some x)) answers
    hold_claim w q m x iw gx = record {
      works_long = set_length works q (Some x) ∙ h.works_long;
      answers_long = h.answers_long;
      worked = λ v. upd_at c.stack w ((q, []) ∷ c.stack w) (λ es. HasWorks is_work given (slice_set works q (Some x)) es) v
          (λ e. ((x, set_same works q (Some x) (let k = h.works_long in let b = m.query in omega (arith, k, b)), iw, gx), works_else works q (Some x) (c.stack w) (none_in w q m.free) (h.worked w)))
          (λ ne. works_else works q (Some x) (c.stack v) (none_in v q m.free) (h.worked v));
      answered = λ r d. h.answered r (else_done c q (Claimed w) r refl d).1;
      kept = λ s r v st ps cl.
          let old = else_is c q (Claimed w) s Stolen (λ e. (cc)) st in
          elim (upd_tells c.status q (Claimed w) r) [
            | inl e ↦ absurd (let f = g.stolen_for s old.1 in let one = l.one_thief s f.0 r f.1 ps in unclaimed_thief f.0 (one ∙ e.0) f.2)
            | inr ne ↦ h.kept s r v old.1 ps (sym ne.1 ∙ cl)
          ];
      clean = λ r e. h.clean r (else_is c q (Claimed w) r Failed (λ k. (cc)) e).1;
    }
      where
        unclaimed_thief : (r : ℕ) → r ≡ q → untouched (c.status r) ≡ false → ⊥
        unclaimed_thief r e u = let k = ap (λ (x : ℕ). untouched (c.status x)) e in let f = ap untouched m.free in (cc)

    pub hold_wait : (x : ℕ → Option ℕ) → Holds is_work given out p (record c { wait = x }) works answers
    hold_wait x = record { works_long = h.works_long; answers_long = h.answers_long; worked = h.worked; answered = h.answered; kept = h.kept; clean = h.clean }

    pub hold_look : (w q : ℕ) (st : Status) → Holds is_work given out p (saw c w q st) works answers
    hold_look w q Unclaimed = record { works_long = h.works_long; answers_long = h.answers_long; worked = h.worked; answered = h.answered; kept = h.kept; clean = h.clean }
    hold_look w q (Claimed v) = record { works_long = h.works_long; answers_long = h.answers_long; worked = h.worked; answered = h.answered; kept = h.kept; clean = h.clean }
    hold_look w q (Done b) = record { works_long = h.works_long; answers_long = h.answers_long; worked = h.worked; answered = h.answered; kept = h.kept; clean = h.clean }
    hold_look w q Failed = record { works_long = h.works_long; answers_long = h.answers_long; worked = h.worked; answered = h.answered; kept = h.kept; clean = h.clean }
    hold_look w q Stolen = record { works_long = h.works_long; answers_long = h.answers_long; worked = h.worked; answered = h.answered; kept = h.kept; clean = h.clean }

    pub hold_draw : (w : ℕ) → Holds is_work given out p (drawn_by p c w) works answers
    hold_draw w = record { works_long = h.works_long; answers_long = h.answers_long; worked = h.worked; answered = h.answered; kept = h.kept; clean = h.clean }

    pub hold_borrow : (w s : ℕ) → Holds is_work given out p (borrowed_by c w s) works answers
    hold_borrow w s = record {
      works_long = h.works_long;
      answers_long = h.answers_long;
      worked = h.worked;
      answered = λ r d. h.answered r (same_done c s (borrowed_more (c.status s)) r (more_done (c.status s)) d);
      kept = λ t r v st ps cl. h.kept t r v (back t Stolen (λ b e. (cc)) st) ps (back r (Claimed v) (λ b e. (cc)) cl);
      clean = λ r e. h.clean r (back r Failed (λ b k. (cc)) e);
    }
      where
        back : (r : ℕ) (t : Status) → ((b : ℕ) → t ≢ Done b) → upd c.status s (borrowed_more (c.status s)) r ≡ t → c.status r ≡ t
        back r t nay e = elim (upd_tells c.status s (borrowed_more (c.status s)) r) [
          | inl k ↦ subst (λ (x : ℕ). c.status x ≡ t) (sym k.0) (more_is (c.status s) t nay (sym k.1 ∙ e))
          | inr k ↦ sym k.1 ∙ e
        ]

    pub hold_steal : (w s : ℕ) → c.status s ≡ Done 0 → Holds is_work given out p (stolen_by c w s) works answers
    hold_steal w s is_done = record {
      works_long = h.works_long;
      answers_long = h.answers_long;
      worked = h.worked;
      answered = λ r d. h.answered r (else_done c s Stolen r refl d).1;
      kept = λ t r v st ps cl.
          let claimed = (else_is c s Stolen r (Claimed v) (λ e. (cc)) cl).1 in
          elim (upd_tells c.status s Stolen t) [
            | inl k ↦ h.answered t (ap (λ (x : ℕ). done (c.status x)) k.0 ∙ ap done is_done)
            | inr k ↦ h.kept t r v (sym k.1 ∙ st) ps claimed
          ];
      clean = λ r e. h.clean r (else_is c s Stolen r Failed (λ k. (cc)) e).1;
    }

    pub hold_release : (w s : ℕ) (e : Entry) (es : List Entry) → c.stack w ≡ e ∷ es → (y : W) → is_work e.0 y
        → ((x : W) → slice_get works e.0 ≡ Some (Some x) → given e.0 y ≡ given e.0 x ++ s ∷ []) → e.0 < p.queries → Holds is_work given out p (released_by c w s) (slice_set works e.0 (Some y)) answers
    hold_release w s e es top y iw gy small = record {
      works_long = set_length works e.0 (Some y) ∙ h.works_long;
      answers_long = h.answers_long;
      worked = λ v. upd_at c.stack w (give s (c.stack w)) (λ fs. HasWorks is_work given (slice_set works e.0 (Some y)) fs) v
          (λ k. subst (λ (fs : List Entry). HasWorks is_work given (slice_set works e.0 (Some y)) (give s fs)) (sym top) here)
          (λ ne. works_else works e.0 (Some y) (c.stack v) (not_in v e.0 w ne (top_claimed p c l g w e es top)) (h.worked v));
      answered = λ r d. h.answered r (same_done c s (borrowed_less (c.status s)) r (less_done (c.status s)) d);
      kept = λ t r v st ps cl. h.kept t r v (back t Stolen (λ b e. (cc)) st) ps (back r (Claimed v) (λ b e. (cc)) cl);
      clean = λ r e. h.clean r (back r Failed (λ b k. (cc)) e);
    }
      where
        old : HasWorks is_work given works (e ∷ es)
        old = subst (λ (fs : List Entry). HasWorks is_work given works fs) top (h.worked w)

        below : has e.0 (queries_of es) ≡ false
        below = (subst (λ (fs : List Entry). IsOnce (queries_of fs)) top (g.once w)).0

        here : HasWorks is_work given (slice_set works e.0 (Some y)) ((e.0, e.1 ++ s ∷ []) ∷ es)
        here = ((y, set_same works e.0 (Some y) (let k = h.works_long in omega (arith, k, small)), iw, gy old.0.0 old.0.1 ∙ ap (λ (ns : List ℕ). ns ++ s ∷ []) old.0.3), works_else works e.0 (Some y) es below old.1)

        back : (r : ℕ) (t : Status) → ((b : ℕ) → t ≢ Done b) → upd c.status s (borrowed_less (c.status s)) r ≡ t → c.status r ≡ t
        back r t nay e = elim (upd_tells c.status s (borrowed_less (c.status s)) r) [
          | inl k ↦ subst (λ (x : ℕ). c.status x ≡ t) (sym k.0) (less_is (c.status s) t nay (sym k.1 ∙ e))
          | inr k ↦ sym k.1 ∙ e
        ]

    -- the answer of another query stays, where it isn't the one that goes
    stays : (steals : Option ℕ) (r q : ℕ) (o : Option A) (y : A) → r ≢ q → steals ≢ Some r → slice_get answers r ≡ Some (Some y) → slice_get (slice_set (without steals answers) q o) r ≡ Some (Some y)
    stays None r q o y ne nay e = set_else answers q r o ne ∙ e
    stays (Some s) r q o y ne nay e = set_else (slice_set answers s None) q r o ne ∙ (set_else answers s r None (λ k. nay (ap Some (sym k))) ∙ e)

    as_long : (steals : Option ℕ) → length (without steals answers) ≡ length answers
    as_long None = refl
    as_long (Some s) = set_length answers s None

    pub hold_publish : (w : ℕ) (e : Entry) (es : List Entry) → MayPublish p c w e es → e.0 < p.queries
        → Holds is_work given out p (published_by c w e.0) (slice_set works e.0 None) (slice_set (without (p.steals e.0) answers) e.0 (Some (out e.0)))
    hold_publish w e es m small = record {
      works_long = set_length works e.0 None ∙ h.works_long;
      answers_long = set_length (without (p.steals e.0) answers) e.0 (Some (out e.0)) ∙ (as_long (p.steals e.0) ∙ h.answers_long);
      worked = λ v. upd_at c.stack w (below_top (c.stack w)) (λ fs. HasWorks is_work given (slice_set works e.0 None) fs) v
          (λ k. subst (λ (fs : List Entry). HasWorks is_work given (slice_set works e.0 None) (below_top fs)) (sym m.top) (works_else works e.0 None es below old.1))
          (λ ne. works_else works e.0 None (c.stack v) (not_in v e.0 w ne claimed) (h.worked v));
      answered = λ r d. elim (upd_tells c.status e.0 (Done 0) r) [
        | inl k ↦ subst (λ (x : ℕ). slice_get (slice_set (without (p.steals e.0) answers) e.0 (Some (out e.0))) x ≡ Some (Some (out x))) (sym k.0) here
        | inr k ↦ let d0 = sym (ap done k.1) ∙ d in stays (p.steals e.0) r e.0 (Some (out e.0)) (out r) k.0 (λ s. let st = ap done (m.taken r s) in absurd (cc)) (h.answered r d0)
      ];
      kept = λ s r v st ps cl.
          let os = else_is c e.0 (Done 0) s Stolen (λ k. (cc)) st in
          let or = else_is c e.0 (Done 0) r (Claimed v) (λ k. (cc)) cl in
          stays (p.steals e.0) s e.0 (Some (out e.0)) (out s) os.0 (λ k. or.0 (l.one_thief s r e.0 ps k)) (h.kept s r v os.1 ps or.1);
      clean = λ r k. h.clean r (else_is c e.0 (Done 0) r Failed (λ x. (cc)) k).1;
    }
      where
        old : HasWorks is_work given works (e ∷ es)
        old = subst (λ (fs : List Entry). HasWorks is_work given works fs) m.top (h.worked w)

        below : has e.0 (queries_of es) ≡ false
        below = (subst (λ (fs : List Entry). IsOnce (queries_of fs)) m.top (g.once w)).0

        claimed : c.status e.0 ≡ Claimed w
        claimed = top_claimed p c l g w e es m.top

        here : slice_get (slice_set (without (p.steals e.0) answers) e.0 (Some (out e.0))) e.0 ≡ Some (Some (out e.0))
        here = set_same (without (p.steals e.0) answers) e.0 (Some (out e.0)) (let k = as_long (p.steals e.0) in let j = h.answers_long in omega (arith, k, j, small))
