-- A borrow and a release keep what is true of the core.
use Rattle.std.proofs.Common.{◌≡◌, ◌≢◌, ℕ, ◌+◌, ◌-◌, ◌<◌, Bool, true, false, List, [], ◌∷◌, ◌⊎◌, inl, inr, refl, sym, subst, ap, ◌∙◌, arith}
use Rattle.std.specs.Prelude.{Option, Some, None}
use Rattle.sched_core.specs.declared.Status.{Status}
use Rattle.sched_core.specs.declared.Status.TheVariants.{Claimed, Done, Failed, Stolen}
use Rattle.sched_core.specs.Plan.{Plan, has, Reads}
use Rattle.sched_core.specs.State.{State, Entry, upd, queries_of, settled, done, untouched, borrowers, borrowed_more, borrowed_less, give, MayBorrow, MayRelease, borrowed_by, released_by}
use Rattle.sched_core.specs.Good.{Good, IsOnce, Chained, GivenSeen, Borrows, StackedClaimed, SeenSettled, GoneFailed, CountsBorrowers, ReadersSettled, StolenFor, StealsTaken, DrawnHeld}
use Rattle.sched_core.proofs.Upd.{upd_same, upd_other, upd_tells, upd_at}
use Rattle.sched_core.proofs.Lists.{next_stands, has_snoc, one, borrowers_set}
use Rattle.sched_core.proofs.Parts.{SettledStay, borrows_at, waits_else, waits_same, other_set, nothing_at}
use Rattle.std.proofs.lemmas.Bool.Decides.{nat_tests}

-- the number of borrowers of s changes from b to a
module _ (p : Plan) (c : State) (s a b : ℕ) (st : Status) (g : Good p c) (was : c.status s ≡ Done b) (will : st ≡ Done a) where
  abbrev pub recounted : ℕ → Status
  recounted = upd c.status s st

  pub claimed_same : (r v : ℕ) → recounted r ≡ Claimed v → c.status r ≡ Claimed v
  claimed_same r v h = grind (arith, upd_tells c.status s st r)

  pub standing : StackedClaimed c.stack recounted
  standing v r h = grind (arith, upd_tells c.status s st r, g.standing v r h)

  pub settled_more : SettledStay c.status recounted
  settled_more r h = grind (arith, upd_tells c.status s st r)

  pub settled_less : SettledStay recounted c.status
  settled_less r h = grind (arith, upd_tells c.status s st r)

  pub seen : SeenSettled c.seen recounted
  seen v r h = settled_more r (g.seen v r h)

  pub gone : GoneFailed c.gone recounted
  gone v r h = grind (arith, upd_tells c.status s st r, g.gone v r h)

  stolen_less : (t : ℕ) → recounted t ≡ Stolen → c.status t ≡ Stolen
  stolen_less t h = grind (arith, upd_tells c.status s st t)

  pub readers : ReadersSettled p recounted
  readers t r h k = settled_more r (g.readers t r (stolen_less t h) k)

  pub stolen_for : StolenFor p recounted
  stolen_for t h = let o = g.stolen_for t (stolen_less t h) in (o.0, o.1, (let k = o.2 in grind (arith, upd_tells c.status s st o.0)))

  pub taken : StealsTaken p recounted
  taken r t h k = let o = g.taken r t (settled_less r h) k in grind (arith, upd_tells c.status s st t)

  pub drawn : DrawnHeld p c.drawn c.workers c.root recounted
  drawn i lt = elim (g.drawn i lt) [
    | inl h ↦ inl (grind (arith, upd_tells c.status s st (p.root i)))
    | inr (inl h) ↦ inr (inl (grind (arith, upd_tells c.status s st (p.root i))))
    | inr (inr h) ↦ inr (inr h)
  ]

  -- what is borrowed is done afterwards too
  pub still_done : (t n : ℕ) → c.status t ≡ Done n → (k : ℕ) × (recounted t ≡ Done k)
  still_done t n h = elim (upd_tells c.status s st t) [ inl e ↦ (a, e.1 ∙ will) | inr e ↦ (n, e.1 ∙ h) ]

one_same : (s : ℕ) → one (Some s) s ≡ 1
one_same s = grind (arith, nat_tests)

one_differs : (s t : ℕ) → t ≢ s → one (Some s) t ≡ 0
one_differs s t h = grind (arith, nat_tests)

module _ (p : Plan) (c : State) (w s : ℕ) (e : Entry) (es : List Entry) (b : ℕ) (g : Good p c) (m : MayBorrow p c w s e es b) where
  abbrev st : Status
  st = borrowed_more (c.status s)

  is_more : st ≡ Done (b + 1)
  is_more = ap borrowed_more m.done

  counted : CountsBorrowers (upd c.borrow w (Some s)) c.workers (upd c.status s st)
  counted t a h = elim (upd_tells c.status s st t) [ inl k ↦ here k | inr k ↦ there k ]
    where
      none : one (c.borrow w) t ≡ 0
      none = ap (λ o. one o t) m.free

      here : (t ≡ s) × (upd c.status s st t ≡ st) → a ≡ borrowers (upd c.borrow w (Some s)) c.workers t
      here k =
          let same : Done a ≡ Done (b + 1) = sym h ∙ (k.1 ∙ is_more) in let is : a ≡ b + 1 = cc in
          let sum = borrowers_set c.borrow w (Some s) t c.workers m.worker in
          let n = none in let o : one (Some s) t ≡ 1 = subst (λ (x : ℕ). one (Some s) x ≡ 1) (sym k.0) (one_same s) in
          let old : b ≡ borrowers c.borrow c.workers t = subst (λ (x : ℕ). b ≡ borrowers c.borrow c.workers x) (sym k.0) (g.counted s b m.done) in
          let x : ℕ = borrowers (upd c.borrow w (Some s)) c.workers t in let y : ℕ = borrowers c.borrow c.workers t in omega arith

      there : (t ≢ s) × (upd c.status s st t ≡ c.status t) → a ≡ borrowers (upd c.borrow w (Some s)) c.workers t
      there k =
          let sum = borrowers_set c.borrow w (Some s) t c.workers m.worker in
          let n = none in let o = one_differs s t k.0 in
          let old = g.counted t a (sym k.1 ∙ h) in
          let x : ℕ = borrowers (upd c.borrow w (Some s)) c.workers t in let y : ℕ = borrowers c.borrow c.workers t in omega arith

  borrowed : (v t : ℕ) → upd c.borrow w (Some s) v ≡ Some t → Borrows p (borrowed_by c w s) v t
  borrowed v t h = elim (upd_tells c.borrow w (Some s) v) [ inl k ↦ here k | inr k ↦ there k ]
    where
      mine : Borrows p (borrowed_by c w s) w s
      mine = record {
        worker = m.worker;
        count = b + 1;
        done = upd_same c.status s st ∙ is_more;
        top = e;
        rest = es;
        stack = m.top;
        reads = (let h = next_stands p (e ∷ es) (c.root w) s m.next in h.0, m.kept);
        seen = m.seen;
        next = m.next;
      }

      here : (v ≡ w) × (upd c.borrow w (Some s) v ≡ Some s) → Borrows p (borrowed_by c w s) v t
      here k = let same : Some s ≡ Some t = sym k.1 ∙ h in let is : s ≡ t = cc in
          subst (λ (x : ℕ). Borrows p (borrowed_by c w s) x t) (sym k.0) (subst (λ (x : ℕ). Borrows p (borrowed_by c w s) w x) is mine)

      there : (v ≢ w) × (upd c.borrow w (Some s) v ≡ c.borrow v) → Borrows p (borrowed_by c w s) v t
      there k = let o = g.borrowed v t (sym k.1 ∙ h) in let d = still_done p c s (b + 1) b st g m.done is_more t o.count o.done in
          borrows_at p c (borrowed_by c w s) v t d.0 o refl d.1 refl o.seen

  pub borrow_keeps : Good p (borrowed_by c w s)
  borrow_keeps = record {
    standing = standing p c s (b + 1) b st g m.done is_more;
    placed = λ v r h. g.placed v r (claimed_same p c s (b + 1) b st g m.done is_more r v h);
    once = g.once;
    chained = g.chained;
    waiting = waits_same p c w g.waiting;
    seen = seen p c s (b + 1) b st g m.done is_more;
    gone = gone p c s (b + 1) b st g m.done is_more;
    given = g.given;
    counted = counted;
    borrowed = borrowed;
    readers = readers p c s (b + 1) b st g m.done is_more;
    stolen_for = stolen_for p c s (b + 1) b st g m.done is_more;
    taken = taken p c s (b + 1) b st g m.done is_more;
    drawn = drawn p c s (b + 1) b st g m.done is_more;
    limit = g.limit;
    rooted = g.rooted;
    seated = λ v le. nothing_at c (borrowed_by c w s) v (g.seated v le) refl (other_set c.borrow w (Some s) c.workers m.worker v le) (other_set c.wait w None c.workers m.worker v le) refl;
  }

queries_give : (s : ℕ) (es : List Entry) → queries_of (give s es) ≡ queries_of es
queries_give s [] = refl
queries_give s (e ∷ es) = refl

chained_give : (p : Plan) (s : ℕ) (r : Option ℕ) (es : List Entry) → Chained p r es → Chained p r (give s es)
chained_give p s r [] h = h
chained_give p s r (e ∷ es) h = h

given_give : (s : ℕ) (f : ℕ → Bool) → f s ≡ true → (es : List Entry) → GivenSeen f es → GivenSeen f (give s es)
given_give s f h [] k = k
given_give s f h (e ∷ es) k = ((λ n i. elim (has_snoc e.1 s n i) [ inl o ↦ k.0 n o | inr o ↦ subst (λ (x : ℕ). f x ≡ true) (sym o) h ]), k.1)

module _ (p : Plan) (c : State) (w s : ℕ) (g : Good p c) (m : MayRelease p c w s) where
  abbrev back : Borrows p c w s
  back = g.borrowed w s m.borrows

  abbrev st' : Status
  st' = borrowed_less (c.status s)

  abbrev b' : ℕ
  b' = back.count

  abbrev given_up : List Entry
  given_up = give s (c.stack w)

  is_less : st' ≡ Done (b' - 1)
  is_less = ap borrowed_less back.done

  same_queries : (v : ℕ) → queries_of (upd c.stack w given_up v) ≡ queries_of (c.stack v)
  same_queries v = upd_at c.stack w given_up (λ es. queries_of es ≡ queries_of (c.stack v)) v (λ e. queries_give s (c.stack w) ∙ ap (λ (x : ℕ). queries_of (c.stack x)) (sym e)) (λ _. refl)

  counted' : CountsBorrowers (upd c.borrow w None) c.workers (upd c.status s st')
  counted' t a h = elim (upd_tells c.status s st' t) [ inl k ↦ here k | inr k ↦ there k ]
    where
      here : (t ≡ s) × (upd c.status s st' t ≡ st') → a ≡ borrowers (upd c.borrow w None) c.workers t
      here k =
          let same : Done a ≡ Done (b' - 1) = sym h ∙ (k.1 ∙ is_less) in let is : a ≡ b' - 1 = cc in
          let sum = borrowers_set c.borrow w None t c.workers back.worker in
          let n : one None t ≡ 0 = refl in let o : one (c.borrow w) t ≡ 1 = ap (λ o. one o t) m.borrows ∙ subst (λ (x : ℕ). one (Some s) x ≡ 1) (sym k.0) (one_same s) in
          let old : b' ≡ borrowers c.borrow c.workers t = subst (λ (x : ℕ). b' ≡ borrowers c.borrow c.workers x) (sym k.0) (g.counted s b' back.done) in
          let x : ℕ = borrowers (upd c.borrow w None) c.workers t in let y : ℕ = borrowers c.borrow c.workers t in omega arith

      there : (t ≢ s) × (upd c.status s st' t ≡ c.status t) → a ≡ borrowers (upd c.borrow w None) c.workers t
      there k =
          let sum = borrowers_set c.borrow w None t c.workers back.worker in
          let n : one None t ≡ 0 = refl in let o : one (c.borrow w) t ≡ 0 = ap (λ o. one o t) m.borrows ∙ one_differs s t k.0 in
          let old = g.counted t a (sym k.1 ∙ h) in
          let x : ℕ = borrowers (upd c.borrow w None) c.workers t in let y : ℕ = borrowers c.borrow c.workers t in omega arith

  borrowed' : (v t : ℕ) → upd c.borrow w None v ≡ Some t → Borrows p (released_by c w s) v t
  borrowed' v t h = elim (upd_tells c.borrow w None v) [ inl k ↦ absurd (let i = k.1 in grind (arith)) | inr k ↦ there k ]
    where
      there : (v ≢ w) × (upd c.borrow w None v ≡ c.borrow v) → Borrows p (released_by c w s) v t
      there k = let o = g.borrowed v t (sym k.1 ∙ h) in let d = still_done p c s (b' - 1) b' st' g back.done is_less t o.count o.done in
          borrows_at p c (released_by c w s) v t d.0 o refl d.1 (upd_other c.stack w given_up v k.0) o.seen

  pub release_keeps : Good p (released_by c w s)
  release_keeps = record {
    standing = λ v r h. standing p c s (b' - 1) b' st' g back.done is_less v r (ap (has r) (sym (same_queries v)) ∙ h);
    placed = λ v r h. ap (has r) (same_queries v) ∙ g.placed v r (claimed_same p c s (b' - 1) b' st' g back.done is_less r v h);
    once = λ v. subst IsOnce (sym (same_queries v)) (g.once v);
    chained = λ v. upd_at c.stack w given_up (λ es. Chained p (c.root v) es) v (λ e. subst (λ (x : ℕ). Chained p (c.root x) given_up) (sym e) (chained_give p s (c.root w) (c.stack w) (g.chained w))) (λ _. g.chained v);
    waiting = waits_else p c w given_up g.waiting;
    seen = seen p c s (b' - 1) b' st' g back.done is_less;
    gone = gone p c s (b' - 1) b' st' g back.done is_less;
    given = λ v. upd_at c.stack w given_up (λ es. GivenSeen (c.seen v) es) v (λ e. subst (λ (x : ℕ). GivenSeen (c.seen x) given_up) (sym e) (given_give s (c.seen w) back.seen (c.stack w) (g.given w))) (λ _. g.given v);
    counted = counted';
    borrowed = borrowed';
    readers = readers p c s (b' - 1) b' st' g back.done is_less;
    stolen_for = stolen_for p c s (b' - 1) b' st' g back.done is_less;
    taken = taken p c s (b' - 1) b' st' g back.done is_less;
    drawn = drawn p c s (b' - 1) b' st' g back.done is_less;
    limit = g.limit;
    rooted = g.rooted;
    seated = λ v le. nothing_at c (released_by c w s) v (g.seated v le) (other_set c.stack w given_up c.workers back.worker v le) (other_set c.borrow w None c.workers back.worker v le) (other_set c.wait w None c.workers back.worker v le) refl;
  }
