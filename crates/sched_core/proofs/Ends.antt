-- A publish and a failure keep what is true of the core.
use Rattle.std.proofs.Common.{◌≡◌, ◌≢◌, ℕ, ◌<◌, Bool, true, false, List, ◌∷◌, ◌⊎◌, inl, inr, refl, sym, subst, ap, ◌∙◌, arith}
use Rattle.std.specs.Prelude.{Some, None}
use Rattle.sched_core.specs.declared.Status.{Status}
use Rattle.sched_core.specs.declared.Status.TheVariants.{Claimed, Done, Failed, Stolen}
use Rattle.sched_core.specs.Plan.{Plan, IsLawful, has, Reads}
use Rattle.sched_core.specs.State.{State, Entry, upd, queries_of, settled, done, untouched, borrowers, below_top, MayPublish, MayFail, published_by, failed_by}
use Rattle.sched_core.specs.Good.{Good, IsOnce, Chained, GivenSeen, Borrows, StackedClaimed, ClaimedStacked, SeenSettled, GoneFailed, CountsBorrowers, ReadersSettled, StolenFor, StealsTaken, DrawnHeld}
use Rattle.sched_core.proofs.Upd.{upd_same, upd_other, upd_tells, upd_at}
use Rattle.sched_core.proofs.Lists.{borrowers_none}
use Rattle.sched_core.proofs.Parts.{SettledStay, borrows_at, waits_else, more, more_tells, more_keeps, given_more, other_set, nothing_at}
use Rattle.std.proofs.lemmas.Bool.Decides.{nat_tests}
use Rattle.sched_core.proofs.Steals.{top_claimed}

-- the top q of w goes, and its status becomes st, which is Done 0 or Failed
module _ (p : Plan) (c : State) (w : ℕ) (e : Entry) (es : List Entry) (st : Status) (l : IsLawful p) (g : Good p c) (top : c.stack w ≡ e ∷ es) (free : c.borrow w ≡ None)
    (unclaimed : (v : ℕ) → st ≢ Claimed v) (unstolen : st ≢ Stolen) (touched : untouched st ≡ false) where
  abbrev q : ℕ
  q = e.0

  abbrev pub status : ℕ → Status
  status = upd c.status q st

  abbrev pub rest : List Entry
  rest = below_top (c.stack w)

  rest_is : rest ≡ es
  rest_is = ap below_top top

  abbrev pub stack : ℕ → List Entry
  stack = upd c.stack w rest

  mine : c.status q ≡ Claimed w
  mine = top_claimed p c l g w e es top

  apart : has q (queries_of es) ≡ false
  apart = let o = subst (λ (xs : List Entry). IsOnce (queries_of xs)) top (g.once w) in o.0

  in_rest : (r : ℕ) → has r (queries_of rest) ≡ true → (r ≢ q) × (has r (queries_of (c.stack w)) ≡ true)
  in_rest r h =
      let h' : has r (queries_of es) ≡ true = subst (λ (xs : List Entry). has r (queries_of xs) ≡ true) rest_is h in (
        (λ k. let bad : has q (queries_of es) ≡ true = subst (λ (x : ℕ). has x (queries_of es) ≡ true) k h' in let o = apart in cc),
        subst (λ (xs : List Entry). has r (queries_of xs) ≡ true) (sym top) (more_of r e.0 (queries_of es) h'),
      )
    where
      more_of : (r y : ℕ) (ys : List ℕ) → has r ys ≡ true → has r (y ∷ ys) ≡ true
      more_of r y ys h = grind (arith, nat_tests)

  out_rest : (r : ℕ) → r ≢ q → has r (queries_of (c.stack w)) ≡ true → has r (queries_of rest) ≡ true
  out_rest r ne h =
      let h' : has r (e.0 ∷ queries_of es) ≡ true = subst (λ (xs : List Entry). has r (queries_of xs) ≡ true) top h in
      subst (λ (xs : List Entry). has r (queries_of xs) ≡ true) (sym rest_is) (less_of r e.0 (queries_of es) ne h')
    where
      less_of : (r y : ℕ) (ys : List ℕ) → r ≢ y → has r (y ∷ ys) ≡ true → has r ys ≡ true
      less_of r y ys ne h = grind (arith, nat_tests)

  pub standing : StackedClaimed stack status
  standing v r = upd_at c.stack w rest (λ xs. has r (queries_of xs) ≡ true → status r ≡ Claimed v) v
      (λ k h. let i = in_rest r h in let o = g.standing w r i.1 in let k' : v ≡ w = k in let u = upd_other c.status q st r i.0 in u ∙ (o ∙ ap Claimed (sym k)))
      (λ ne h. let o = g.standing v r h in upd_at c.status q st (λ x. x ≡ Claimed v) r (λ k. absurd (let same : Claimed w ≡ Claimed v = sym mine ∙ subst (λ (x : ℕ). c.status x ≡ Claimed v) k o in ne (cc))) (λ _. o))

  pub placed : ClaimedStacked stack status
  placed v r h = elim (upd_tells c.status q st r) [
    | inl k ↦ absurd (unclaimed v (sym k.1 ∙ h))
    | inr k ↦ let o = g.placed v r (sym k.1 ∙ h) in
        upd_at c.stack w rest (λ xs. has r (queries_of xs) ≡ true) v (λ i. out_rest r k.0 (subst (λ (x : ℕ). has r (queries_of (c.stack x)) ≡ true) i o)) (λ _. o)
  ]

  pub once : (v : ℕ) → IsOnce (queries_of (stack v))
  once v = let o = subst (λ (xs : List Entry). IsOnce (queries_of xs)) top (g.once w) in
      upd_at c.stack w rest (λ xs. IsOnce (queries_of xs)) v (λ _. subst (λ (xs : List Entry). IsOnce (queries_of xs)) (sym rest_is) o.1) (λ _. g.once v)

  pub chained : (v : ℕ) → Chained p (c.root v) (stack v)
  chained v = let o = subst (λ (xs : List Entry). Chained p (c.root w) xs) top (g.chained w) in
      upd_at c.stack w rest (λ xs. Chained p (c.root v) xs) v
      (λ k. subst (λ (x : ℕ). Chained p (c.root x) rest) (sym k) (subst (λ (xs : List Entry). Chained p (c.root w) xs) (sym rest_is) o.1)) (λ _. g.chained v)

  pub given_rest : (f : ℕ → ℕ → Bool) → ((v r : ℕ) → c.seen v r ≡ true → f v r ≡ true) → (v : ℕ) → GivenSeen (f v) (stack v)
  given_rest f m v = let o = subst (λ (xs : List Entry). GivenSeen (c.seen w) xs) top (g.given w) in
      given_more (c.seen v) (f v) (m v) (stack v) (upd_at c.stack w rest (λ xs. GivenSeen (c.seen v) xs) v
      (λ k. subst (λ (x : ℕ). GivenSeen (c.seen x) rest) (sym k) (subst (λ (xs : List Entry). GivenSeen (c.seen w) xs) (sym rest_is) o.1)) (λ _. g.given v))

  settled_more : SettledStay c.status status
  settled_more r h = let m = mine in grind (arith, upd_tells c.status q st r)

  pub seen : SeenSettled c.seen status
  seen v r h = settled_more r (g.seen v r h)

  pub gone : GoneFailed c.gone status
  gone v r h = let m = mine in let o = g.gone v r h in grind (arith, upd_tells c.status q st r)

  -- nobody borrows q, which was claimed
  unborrowed : (v : ℕ) → c.borrow v ≡ Some q → ⊥
  unborrowed v h = let o = g.borrowed v q h in let d = o.done in let m = mine in cc

  pub counted : ((a : ℕ) → st ≡ Done a → a ≡ 0) → CountsBorrowers c.borrow c.workers status
  counted none t a h = elim (upd_tells c.status q st t) [
    | inl k ↦ none a (sym k.1 ∙ h) ∙ sym (subst (λ (x : ℕ). borrowers c.borrow c.workers x ≡ 0) (sym k.0) (borrowers_none c.borrow q c.workers (λ v _. unborrowed v)))
    | inr k ↦ g.counted t a (sym k.1 ∙ h)
  ]

  pub borrowed : (d : State) → d.workers ≡ c.workers → d.status ≡ status → d.stack ≡ stack → ((v r : ℕ) → c.seen v r ≡ true → d.seen v r ≡ true) → (v t : ℕ) → c.borrow v ≡ Some t → Borrows p d v t
  borrowed d n s k m v t h = let o = g.borrowed v t h in
      let ne : t ≢ q = λ i. unborrowed v (subst (λ (x : ℕ). c.borrow v ≡ Some x) i h) in
      let other : v ≢ w = λ i. let bad : c.borrow w ≡ Some t = subst (λ (x : ℕ). c.borrow x ≡ Some t) i h in let f = free in (cc) in
      borrows_at p c d v t o.count o n (ap (λ (f : ℕ → Status). f t) s ∙ (upd_other c.status q st t ne ∙ o.done)) (ap (λ (f : ℕ → List Entry). f v) k ∙ upd_other c.stack w rest v other) (m v t o.seen)

  stolen_less : (t : ℕ) → status t ≡ Stolen → c.status t ≡ Stolen
  stolen_less t h = elim (upd_tells c.status q st t) [ inl k ↦ absurd (unstolen (sym k.1 ∙ h)) | inr k ↦ sym k.1 ∙ h ]

  pub readers : ReadersSettled p status
  readers t r h k = settled_more r (g.readers t r (stolen_less t h) k)

  pub stolen_for : StolenFor p status
  stolen_for t h = let o = g.stolen_for t (stolen_less t h) in (o.0, o.1, (let k = o.2 in grind (arith, upd_tells c.status q st o.0)))

  pub taken : (settled st ≡ true → (s : ℕ) → p.steals q ≡ Some s → c.status s ≡ Stolen) → StealsTaken p status
  taken stole r t h k =
      let old : c.status t ≡ Stolen = elim (upd_tells c.status q st r) [
        | inl i ↦ stole (ap settled (sym i.1) ∙ h) t (subst (λ (x : ℕ). p.steals x ≡ Some t) i.0 k)
        | inr i ↦ g.taken r t (ap settled (sym i.1) ∙ h) k
      ] in
      let m = mine in grind (arith, upd_tells c.status q st t)

  pub drawn : ((done st ≡ true) ⊎ (st ≡ Failed)) → DrawnHeld p c.drawn c.workers c.root status
  drawn ends i lt = elim (upd_tells c.status q st (p.root i)) [
    | inl k ↦ elim ends [ inl o ↦ inl (ap done k.1 ∙ o) | inr o ↦ inr (inl (k.1 ∙ o)) ]
    | inr k ↦ elim (g.drawn i lt) [ inl h ↦ inl (ap done k.1 ∙ h) | inr (inl h) ↦ inr (inl (k.1 ∙ h)) | inr (inr h) ↦ inr (inr h) ]
  ]

module _ (p : Plan) (c : State) (w : ℕ) (e : Entry) (es : List Entry) (l : IsLawful p) (g : Good p c) where
  pub publish_keeps : MayPublish p c w e es → Good p (published_by c w e.0)
  publish_keeps m = let f = m.free in let un : (v : ℕ) → Done 0 ≢ Claimed v = λ v k. (cc) in let us : Done 0 ≢ Stolen = λ k. (cc) in
      let st = Done 0 in record {
        standing = standing p c w e es (Done 0) l g m.top f un us refl;
        placed = placed p c w e es (Done 0) l g m.top f un us refl;
        once = once p c w e es (Done 0) l g m.top f un us refl;
        chained = chained p c w e es (Done 0) l g m.top f un us refl;
        waiting = waits_else p c w (below_top (c.stack w)) g.waiting;
        seen = λ v r k. elim (more_tells c.seen w e.0 v r k) [
          | inl i ↦ subst (λ (x : ℕ). settled (upd c.status e.0 (Done 0) x) ≡ true) (sym i.1) (ap settled (upd_same c.status e.0 (Done 0)))
          | inr i ↦ seen p c w e es (Done 0) l g m.top f un us refl v r i
        ];
        gone = gone p c w e es (Done 0) l g m.top f un us refl;
        given = given_rest p c w e es (Done 0) l g m.top f un us refl (more c.seen w e.0) (more_keeps c.seen w e.0);
        counted = counted p c w e es (Done 0) l g m.top f un us refl (λ a h. cc);
        borrowed = borrowed p c w e es (Done 0) l g m.top f un us refl (published_by c w e.0) refl refl refl (more_keeps c.seen w e.0);
        readers = readers p c w e es (Done 0) l g m.top f un us refl;
        stolen_for = stolen_for p c w e es (Done 0) l g m.top f un us refl;
        taken = taken p c w e es (Done 0) l g m.top f un us refl (λ _. m.taken);
        drawn = drawn p c w e es (Done 0) l g m.top f un us refl (inl refl);
        limit = g.limit;
        rooted = g.rooted;
        seated = λ v le. nothing_at c (published_by c w e.0) v (g.seated v le) (other_set c.stack w (below_top (c.stack w)) c.workers m.worker v le) refl (other_set c.wait w None c.workers m.worker v le) refl;
      }

  pub fail_keeps : MayFail p c w e es → Good p (failed_by c w e.0)
  fail_keeps m = let f = m.free in let un : (v : ℕ) → Failed ≢ Claimed v = λ v k. (cc) in let us : Failed ≢ Stolen = λ k. (cc) in record {
    standing = standing p c w e es Failed l g m.top f un us refl;
    placed = placed p c w e es Failed l g m.top f un us refl;
    once = once p c w e es Failed l g m.top f un us refl;
    chained = chained p c w e es Failed l g m.top f un us refl;
    waiting = waits_else p c w (below_top (c.stack w)) g.waiting;
    seen = seen p c w e es Failed l g m.top f un us refl;
    gone = λ v r k. elim (more_tells c.gone w e.0 v r k) [
      | inl i ↦ subst (λ (x : ℕ). upd c.status e.0 Failed x ≡ Failed) (sym i.1) (upd_same c.status e.0 Failed)
      | inr i ↦ gone p c w e es Failed l g m.top f un us refl v r i
    ];
    given = given_rest p c w e es Failed l g m.top f un us refl c.seen (λ v r h. h);
    counted = counted p c w e es Failed l g m.top f un us refl (λ a h. absurd (cc));
    borrowed = borrowed p c w e es Failed l g m.top f un us refl (failed_by c w e.0) refl refl refl (λ v r h. h);
    readers = readers p c w e es Failed l g m.top f un us refl;
    stolen_for = stolen_for p c w e es Failed l g m.top f un us refl;
    taken = taken p c w e es Failed l g m.top f un us refl (λ h. absurd (cc));
    drawn = drawn p c w e es Failed l g m.top f un us refl (inr refl);
    limit = g.limit;
    rooted = g.rooted;
    seated = λ v le. nothing_at c (failed_by c w e.0) v (g.seated v le) (other_set c.stack w (below_top (c.stack w)) c.workers m.worker v le) refl (other_set c.wait w None c.workers m.worker v le) refl;
  }
