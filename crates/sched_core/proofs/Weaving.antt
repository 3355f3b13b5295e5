-- What each call of a weave needs and leaves.
use Rattle.std.proofs.Common.{◌≡◌, ◌≢◌, ℕ, zero, suc, ◌+◌, ◌-◌, ◌<◌, ◌≤◌, true, List, [], ◌∷◌, ◌++◌, length, refl, sym, subst, ap, ◌∙◌, arith, slice_index_or, slice_set}
use Rattle.std.specs.Prelude.{Option, Some, None, IfSome, Vec, slice_get, replicate, is_some, option_to_list, Result, Ok, Err, OnOk}
use Rattle.sched_core.specs.declared.Event.{Event}
use Rattle.sched_core.specs.declared.Event.TheVariants.{Release, Publish}
use Rattle.sched_core.specs.declared.state.Standing.{Standing}
use Rattle.sched_core.specs.declared.state.Core.{Core}
use Rattle.sched_core.specs.Plan.{Plan, IsLawful, has, next_need}
use Rattle.sched_core.specs.State.{State, Entry, next, next_of_top, after, on_top, published_by, done, start, Legal, MayPublish}
use Rattle.sched_core.specs.Good.{Good}
use Rattle.sched_core.specs.Turn.{turn, moved}
use Rattle.sched_core.specs.Work.{trail_of, trail_from}
use Rattle.sched_core.specs.Shown.{state_of, stack_of, row_at, Ready, Says, IsTold, GoodFor, Happens}
use Rattle.sched_core.specs.Held.{HasWorks, Holds, Weaves, without, roots_answers}
use Rattle.sched_core.proofs.Listed.{alike_long}
use Rattle.sched_core.proofs.Acts.{happens_good}
use Rattle.sched_core.proofs.Steals.{top_claimed}
use Rattle.sched_core.proofs.Holding.{hold_release, hold_publish}

-- what was told is still so
pub says_told : {Z : Type 0} (p : Plan) (told : Option (Option ℕ)) (row : Option (Vec Standing Z)) → Ready p told row → is_some told ≡ true → (e : Entry) (es : List Entry) → stack_of (row_at row) ≡ e ∷ es → told ≡ Some (next_need (p.needs e.0) e.1)
says_told p None row r t e es top = absurd (cc)
says_told p (Some need) None r t e es top = absurd (cc)
says_told p (Some need) (Some row) r t e es top = ap Some (subst (Says p need) top r.2)

same_top : (xs : List Entry) (e f : Entry) (es fs : List Entry) → xs ≡ e ∷ es → xs ≡ f ∷ fs → (e ≡ f) × (es ≡ fs)
same_top xs e f es fs h k = ((cc), (cc))

pub publish_as : (p : Plan) (c : State) (w : ℕ) (e f : Entry) (es fs : List Entry) → MayPublish p c w e es → c.stack w ≡ f ∷ fs → MayPublish p c w f fs
publish_as p c w e f es fs m top =
    let s = same_top (c.stack w) e f es fs m.top top in
    subst (λ (x : Entry). MayPublish p c w x fs) s.0 (subst (λ (xs : List Entry). MayPublish p c w e xs) s.1 m)

module _ {W A : Type 0} {is_work : ℕ → W → Type 0} {given : ℕ → W → List ℕ} {out : ℕ → A} {p : Plan} {core : Core} {works : List (Option W)} {answers : List (Option A)} (loom : Weaves is_work given out p core works answers) (w q : ℕ) (gave : List ℕ) (es : List Entry) (top : (state_of core).stack w ≡ (q, gave) ∷ es) where
  abbrev c : State
  c = state_of core

  abbrev l : IsLawful p
  l = loom.good.lawful

  abbrev g : Good p c
  g = loom.good.good

  abbrev h : Holds is_work given out p c works answers
  h = loom.holds

  -- the work of the top
  pub top_work : (x : W) × (slice_get works q ≡ Some (Some x)) × is_work q x × (given q x ≡ gave)
  top_work = (subst (λ (xs : List Entry). HasWorks is_work given works xs) top (h.worked w)).0

  work_is : (x y : W) → slice_get works q ≡ Some (Some x) → slice_get works q ≡ Some (Some y) → x ≡ y
  work_is x y a b = (cc)

  pub next_is : (x : W) → slice_get works q ≡ Some (Some x) → (is_work q x) × (next_need (p.needs q) (given q x) ≡ next p c w)
  next_is x at =
      let t = top_work in
      let same = work_is t.0 x t.1 at in
      (subst (is_work q) same t.2, ap (next_need (p.needs q)) (sym (ap (given q) same) ∙ t.3) ∙ sym (ap (λ xs. next_of_top p xs (c.root w)) top))

  -- what a release gives
  pub given_next : (s : ℕ) → c.borrow w ≡ Some s → ((x : W) × (slice_get works q ≡ Some (Some x)) × is_work q x × (next_need (p.needs q) (given q x) ≡ Some s)) × (p.steals q ≢ Some s) × (slice_get answers s ≡ Some (Some (out s)))
  given_next s b =
      let r = g.borrowed w s b in
      let t = top_work in
      let same = same_top (c.stack w) r.top (q, gave) r.rest es r.stack top in
      let reads = subst (λ (e : Entry). p.steals e.0 ≢ Some s) same.0 r.reads.1 in
      let next = subst (λ (e : Entry). next_need (p.needs e.0) e.1 ≡ Some s) same.0 r.next in
      ((t.0, t.1, t.2, ap (next_need (p.needs q)) t.3 ∙ next), reads, h.answered s (ap done r.done))

  pub after_release : (s : ℕ) → q < p.queries → (y : W) → is_work q y → ((x : W) → slice_get works q ≡ Some (Some x) → given q y ≡ given q x ++ s ∷ []) → Holds is_work given out p (after p c (Release w s)) (slice_set works q (Some y)) answers
  after_release s small y iw gy = hold_release is_work given out p l c g works answers h w s (q, gave) es top y iw gy small

  -- what a publish finishes
  module _ (m : MayPublish p c w (q, gave) es) where
    pub finish_ready : (x : W) × (slice_get works q ≡ Some (Some x)) × is_work q x × ((n : ℕ) → has n (p.needs q) ≡ true → p.steals q ≢ Some n → has n (given q x) ≡ true)
    finish_ready = let t = top_work in (t.0, t.1, t.2, λ n i k. subst (λ (ns : List ℕ). has n ns ≡ true) (sym t.3) (m.all_seen.0 n i k))

    pub taken_there : (o : Option ℕ) → p.steals q ≡ o → IfSome o (λ s. slice_get answers s ≡ Some (Some (out s)))
    taken_there None e = tt
    taken_there (Some s) e = h.kept s q w (m.taken s e) e (top_claimed p c l g w (q, gave) es top)

    pub after_publish : q < p.queries → Holds is_work given out p (after p c (Publish w)) (slice_set works q None) (slice_set (without (p.steals q) answers) q (Some (out q)))
    after_publish small =
        subst (λ (xs : List Entry). Holds is_work given out p (on_top c xs (λ d r. published_by d w r)) (slice_set works q None) (slice_set (without (p.steals q) answers) q (Some (out q)))) (sym top)
        (hold_publish is_work given out p l c g works answers h w (q, gave) es m small)

module _ {W A : Type 0} (is_work : ℕ → W → Type 0) (given : ℕ → W → List ℕ) (out : ℕ → A) (p : Plan) where
  -- works and answers over an equal state and equal lists
  pub holds_as : (c d : State) (works works2 : List (Option W)) (answers answers2 : List (Option A)) → d ≡ c → works2 ≡ works → answers2 ≡ answers → Holds is_work given out p c works answers → Holds is_work given out p d works2 answers2
  holds_as c d works works2 answers answers2 e f k h =
      subst (λ (s : State). Holds is_work given out p s works2 answers2) (sym e) (subst (λ (xs : List (Option W)). Holds is_work given out p c xs answers2) (sym f) (subst (λ (ys : List (Option A)). Holds is_work given out p c works ys) (sym k) h))

-- the trail of a schedule, turn by turn
pub trail_none : (p : Plan) (c : State) (w : ℕ) (ws : List ℕ) → None ≡ turn p c w → trail_of p c (w ∷ ws) ≡ trail_of p c ws
trail_none p c w ws e = sym (ap (λ (o : Option Event). trail_from p c o w (λ d. trail_of p d ws)) e)

pub trail_some : (p : Plan) (c : State) (w : ℕ) (ws : List ℕ) (x : Event) → Some x ≡ turn p c w → trail_of p c (w ∷ ws) ≡ x ∷ trail_of p (after p c x) ws
trail_some p c w ws x e = sym (ap (λ (o : Option Event). trail_from p c o w (λ d. trail_of p d ws)) e)

-- what is left of a list behind its first k
abbrev pub rest_of : {A : Type 0} → ℕ → List A → List A
rest_of zero xs = xs
rest_of (suc k) [] = []
rest_of (suc k) (x ∷ xs) = rest_of k xs

pub rest_next : {A : Type 0} (xs : List A) (k : ℕ) (d : A) → k < length xs → rest_of k xs ≡ slice_index_or xs k d ∷ rest_of (suc k) xs
rest_next [] k d lt = absurd (omega arith)
rest_next (y ∷ ys) zero d lt = refl
rest_next (y ∷ ys) (suc k) d lt = rest_next ys k d (omega arith)

pub rest_none : {A : Type 0} (xs : List A) (k : ℕ) → length xs ≤ k → rest_of k xs ≡ []
rest_none [] zero h = refl
rest_none [] (suc k) h = refl
rest_none (x ∷ xs) zero h = absurd (omega arith)
rest_none (x ∷ xs) (suc k) h = rest_none xs k (omega arith)

module _ {W A : Type 0} (is_work : ℕ → W → Type 0) (given : ℕ → W → List ℕ) (out : ℕ → A) (p : Plan) where
  pub start_weaves : (core : Core) (n m : ℕ) (works : List (Option W)) (answers : List (Option A)) → GoodFor p core → state_of core ≡ start n → m ≡ p.queries → works ≡ replicate m None → answers ≡ replicate m None → Weaves is_work given out p core works answers
  start_weaves core n m works answers g s k e f = record {
    good = g;
    holds = holds_as is_work given out p (start n) (state_of core) (replicate m None) works (replicate m None) answers s e f
        (record {
          works_long = alike_long m None ∙ k;
          answers_long = alike_long m None ∙ k;
          worked = λ w. tt;
          answered = λ q d. absurd (cc);
          kept = λ t q w st ps cl. absurd (cc);
          clean = λ q e. (cc);
        });
  }

module _ {A : Type 0} (out : ℕ → A) (p : Plan) where
  -- the roots' answers, as they are taken from their places
  pub answers_more : (i n : ℕ) (taken : List A) (x : A) → x ≡ out (p.root i) → roots_answers out p 0 n ≡ taken ++ roots_answers out p i (n - i) → i < n → roots_answers out p 0 n ≡ (taken ++ (x ∷ [])) ++ roots_answers out p (i + 1) (n - (i + 1))
  answers_more i n taken x e h lt =
      let m : ℕ = n - (i + 1) in
      let rest : n - i ≡ suc m = omega arith in
      let one : suc i ≡ i + 1 = omega arith in
      let a : taken ++ roots_answers out p i (n - i) ≡ taken ++ roots_answers out p i (suc m) = ap (λ (k : ℕ). taken ++ roots_answers out p i k) rest in
      let b : taken ++ (out (p.root i) ∷ roots_answers out p (suc i) m) ≡ taken ++ (x ∷ roots_answers out p (suc i) m) = ap (λ (y : A). taken ++ (y ∷ roots_answers out p (suc i) m)) (sym e) in
      let d : taken ++ (x ∷ roots_answers out p (suc i) m) ≡ taken ++ (x ∷ roots_answers out p (i + 1) m) = ap (λ (k : ℕ). taken ++ (x ∷ roots_answers out p k m)) one in
      h ∙ (a ∙ (b ∙ (d ∙ sym (assoc taken (x ∷ []) (roots_answers out p (i + 1) m)))))
    where
      assoc : (xs ys zs : List A) → (xs ++ ys) ++ zs ≡ xs ++ (ys ++ zs)
      assoc [] ys zs = refl
      assoc (y ∷ xs) ys zs = ap (λ us. y ∷ us) (assoc xs ys zs)

pub trail_more : (trail : List Event) (x : Event) (rest : List Event) → trail ++ (x ∷ rest) ≡ (trail ++ x ∷ []) ++ rest
trail_more [] x rest = refl
trail_more (e ∷ es) x rest = ap (λ us. e ∷ us) (trail_more es x rest)

module _ {W A : Type 0} (is_work : ℕ → W → Type 0) (given : ℕ → W → List ℕ) (out : ℕ → A) (p : Plan) where
  -- a core that was told its next need weaves on
  pub told_weaves : (c d : Core) (works : List (Option W)) (answers : List (Option A)) → Weaves is_work given out p c works answers → state_of d ≡ state_of c
      → (w : ℕ) (need : Option ℕ) {E : Type 0} (result : Result (Unit {0}) E) → OnOk result ((q : Plan) → need ≡ next q (state_of c) w → GoodFor q c → GoodFor q d) → need ≡ next p (state_of c) w → OnOk result (Weaves is_work given out p d works answers)
  told_weaves c d works answers h same w need (Ok u) k n = record { good = k p n h.good; holds = subst (λ (s : State). Holds is_work given out p s works answers) (sym same) h.holds }
  told_weaves c d works answers h same w need (Err e) k n = tt

  pub begun : (d : State) (works works2 : List (Option W)) (answers : List (Option A)) (q : ℕ) {E : Type 0} (result : Result (Unit {0}) E) → OnOk result ((x : W) × (works2 ≡ slice_set works q (Some x)) × is_work q x × (given q x ≡ []))
      → ((x : W) → is_work q x → given q x ≡ [] → Holds is_work given out p d (slice_set works q (Some x)) answers) → OnOk result (Holds is_work given out p d works2 answers)
  begun d works works2 answers q (Ok u) k f = subst (λ (xs : List (Option W)). Holds is_work given out p d xs answers) (sym k.1) (f k.0 k.2 k.3)
  begun d works works2 answers q (Err e) k f = tt

  pub gave : (d : State) (works works2 : List (Option W)) (answers : List (Option A)) (q s : ℕ) {E : Type 0} (result : Result (Unit {0}) E) → OnOk result ((y : W) × (works2 ≡ slice_set works q (Some y)) × is_work q y × ((x : W) → slice_get works q ≡ Some (Some x) → given q y ≡ given q x ++ s ∷ []))
      → ((y : W) → is_work q y → ((x : W) → slice_get works q ≡ Some (Some x) → given q y ≡ given q x ++ s ∷ []) → Holds is_work given out p d (slice_set works q (Some y)) answers) → OnOk result (Holds is_work given out p d works2 answers)
  gave d works works2 answers q s (Ok u) k f = subst (λ (xs : List (Option W)). Holds is_work given out p d xs answers) (sym k.1) (f k.0 k.2 k.3)
  gave d works works2 answers q s (Err e) k f = tt

  pub finished : (d : State) (works works2 : List (Option W)) (answers answers2 : List (Option A)) (q : ℕ) {E : Type 0} (result : Result (Unit {0}) E) → OnOk result (works2 ≡ slice_set works q None) → OnOk result (answers2 ≡ slice_set (without (p.steals q) answers) q (Some (out q)))
      → Holds is_work given out p d (slice_set works q None) (slice_set (without (p.steals q) answers) q (Some (out q))) → OnOk result (Holds is_work given out p d works2 answers2)
  finished d works works2 answers answers2 q (Ok u) k j h = holds_as is_work given out p d d (slice_set works q None) works2 (slice_set (without (p.steals q) answers) q (Some (out q))) answers2 refl k j h
  finished d works works2 answers answers2 q (Err e) k j h = tt

pub told_told : (p : Plan) (c : State) (d : Core) (w : ℕ) (need : Option ℕ) {E : Type 0} (result : Result (Unit {0}) E) → OnOk result ((q : Plan) → need ≡ next q c w → IsTold q d w) → need ≡ next p c w → OnOk result (IsTold p d w)
told_told p c d w need (Ok u) k n = k p n
told_told p c d w need (Err e) k n = tt

module _ {W A : Type 0} (is_work : ℕ → W → Type 0) (given : ℕ → W → List ℕ) (out : ℕ → A) (p : Plan) where
  -- a core that did the event weaves on
  pub step_weaves : (told carried stepped : Core) (e : Event) (works : List (Option W)) (answers : List (Option A)) → carried ≡ told → GoodFor p told → Legal p (state_of told) e → Happens p carried stepped e
      → Holds is_work given out p (after p (state_of told) e) works answers → Weaves is_work given out p stepped works answers
  step_weaves told carried stepped e works answers same g m h k = record {
    good = happens_good p g.lawful told stepped e g m (subst (λ (x : Core). Happens p x stepped e) same h);
    holds = subst (λ (c : State). Holds is_work given out p c works answers) (sym (h.state ∙ ap (λ (x : Core). after p (state_of x) e) same)) k;
  }

-- a place with nothing in it
abbrev pub IsNone : {A : Type 0} → Option (Option A) → Type 0
IsNone None = Unit {0}
IsNone (Some o) = o ≡ None

pub all_none : {A : Type 0} (xs : List (Option A)) (n : ℕ) → length xs ≡ n → ((w : ℕ) → IsNone (slice_get xs w)) → xs ≡ replicate n None
all_none [] zero e h = refl
all_none [] (suc n) e h = absurd (omega arith)
all_none (x ∷ xs) zero e h = absurd (omega arith)
all_none (x ∷ xs) (suc n) e h =
    let first : x ≡ None = h 0 in
    let rest = all_none xs n (omega arith) (λ w. h (suc w)) in
    λ i. first i ∷ rest i

pub append_none : {A : Type 0} (xs : List A) → xs ++ [] ≡ xs
append_none [] = refl
append_none (x ∷ xs) = ap (λ ys. x ∷ ys) (append_none xs)

append_append : {A : Type 0} (xs ys zs : List A) → (xs ++ ys) ++ zs ≡ xs ++ (ys ++ zs)
append_append [] ys zs = refl
append_append (x ∷ xs) ys zs = ap (λ us. x ∷ us) (append_append xs ys zs)

trail_turn : (p : Plan) (c : State) (w : ℕ) (ws : List ℕ) (o : Option Event) → o ≡ turn p c w → trail_of p c (w ∷ ws) ≡ option_to_list o ++ trail_of p (moved p c o) ws
trail_turn p c w ws None e = trail_none p c w ws e
trail_turn p c w ws (Some x) e = trail_some p c w ws x e

-- one turn of the schedule more
pub follow_step : (p : Plan) (c d : State) (schedule : List ℕ) (k x : ℕ) (all trail more : List Event) (o : Option Event) → all ≡ trail ++ trail_of p c (rest_of k schedule) → k < length schedule
    → o ≡ turn p c (slice_index_or schedule k x) → d ≡ moved p c o → more ≡ trail ++ option_to_list o → all ≡ more ++ trail_of p d (rest_of (k + 1) schedule)
follow_step p c d schedule k x all trail more o h lt t m e =
    let one : suc k ≡ k + 1 = omega arith in
    let ws : List ℕ = rest_of (suc k) schedule in
    let a : trail_of p c (rest_of k schedule) ≡ option_to_list o ++ trail_of p (moved p c o) ws = ap (trail_of p c) (rest_next schedule k x lt) ∙ trail_turn p c (slice_index_or schedule k x) ws o t in
    let b : trail ++ trail_of p c (rest_of k schedule) ≡ trail ++ (option_to_list o ++ trail_of p (moved p c o) ws) = ap (λ (es : List Event). trail ++ es) a in
    let f : (trail ++ option_to_list o) ++ trail_of p (moved p c o) ws ≡ more ++ trail_of p (moved p c o) ws = ap (λ (es : List Event). es ++ trail_of p (moved p c o) ws) (sym e) in
    let g : more ++ trail_of p (moved p c o) ws ≡ more ++ trail_of p d ws = ap (λ (s : State). more ++ trail_of p s ws) (sym m) in
    let i : more ++ trail_of p d ws ≡ more ++ trail_of p d (rest_of (k + 1) schedule) = ap (λ (n : ℕ). more ++ trail_of p d (rest_of n schedule)) one in
    h ∙ (b ∙ (sym (append_append trail (option_to_list o) (trail_of p (moved p c o) ws)) ∙ (f ∙ (g ∙ i))))

pub follow_end : (p : Plan) (c : State) (schedule : List ℕ) (k : ℕ) (all trail : List Event) → all ≡ trail ++ trail_of p c (rest_of k schedule) → length schedule ≤ k → trail ≡ all
follow_end p c schedule k all trail h le =
    sym (h ∙ (ap (λ (ws : List ℕ). trail ++ trail_of p c ws) (rest_none schedule k le) ∙ append_none trail))

pub answers_end : {A : Type 0} (out : ℕ → A) (p : Plan) (i n : ℕ) (taken : List A) → roots_answers out p 0 n ≡ taken ++ roots_answers out p i (n - i) → n ≤ i → taken ≡ roots_answers out p 0 n
answers_end out p i n taken h le =
    let none : n - i ≡ 0 = omega arith in
    sym (h ∙ (ap (λ (k : ℕ). taken ++ roots_answers out p i k) none ∙ append_none taken))
