-- An event has no reason against it exactly where it is legal.
use Rattle.std.proofs.Common.{◌≡◌, ◌≢◌, ℕ, zero, suc, ◌<◌, Bool, true, false, List, [], ◌∷◌, ◌⊎◌, inl, inr, refl, sym, subst, ap, ◌∙◌, arith, ◌&&◌, ◌||◌}
use Rattle.std.specs.Prelude.{Option, Some, None, nat_lt, if◌then◌else◌}
use Rattle.sched_core.specs.declared.Status.{Status}
use Rattle.sched_core.specs.declared.Status.TheVariants.{Unclaimed, Claimed, Done, Failed, Stolen}
use Rattle.sched_core.specs.declared.Event.{Event}
use Rattle.sched_core.specs.declared.Event.TheVariants.{Claim, Look, Borrow, Release, Steal, Publish, Fail, Draw}
use Rattle.sched_core.specs.declared.Why.{Why}
use Rattle.sched_core.specs.declared.Why.TheVariants as w
use Rattle.sched_core.specs.Plan.{Plan, next_need}
use Rattle.sched_core.specs.State.{State, Entry, is, next, untouched, WaitFits, Legal, all_seen, is_stolen, done}
use Rattle.sched_core.specs.Table.{or_else, unless, is_root, is_empty, claimed_here, is_free, within, holds_none, taken, why, why_borrow, why_steal, why_publish, why_fail, why_draw}
use Rattle.sched_core.proofs.Lists.{bool_tells, nat_cases}
use Rattle.sched_core.proofs.Turns.{and_tells, is_tells, is_here, untouched_tells, stolen_tells, all_seen_tells, all_seen_from}
use Rattle.std.proofs.lemmas.Bool.Decides.{nat_tests}

or_none : (a b : Option Why) → or_else a b ≡ None → (a ≡ None) × (b ≡ None)
or_none None b h = (refl, h)
or_none (Some y) b h = absurd (cc)

unless_none : (t : Bool) (y : Why) → unless t y ≡ None → t ≡ true
unless_none true y h = refl
unless_none false y h = absurd (cc)

within_none : (n limit : ℕ) → within n limit ≡ None → n < limit
within_none n limit h = let t = unless_none (nat_lt n limit) (w.NotTop n) h in grind (arith, nat_tests)

both_none : (a b : Option Why) → a ≡ None → b ≡ None → or_else a b ≡ None
both_none a b e f = λ i. at i
  where
    at : or_else a b ≡ None
    at = ap (λ x. or_else x b) e ∙ f

no_unless : (t : Bool) (y : Why) → t ≡ true → unless t y ≡ None
no_unless t y e = ap (λ b. unless b y) e

in_range : (n limit : ℕ) → n < limit → within n limit ≡ None
in_range n limit h = no_unless (nat_lt n limit) (w.NotTop n) (grind (arith, nat_tests))

root_tells : (root : ℕ → ℕ) (n q : ℕ) → is_root root n q ≡ true → (i : ℕ) × (i < n) × (root i ≡ q)
root_tells root zero q h = absurd (cc)
root_tells root (suc n) q h =
    let rest = λ (k : is_root root n q ≡ true). root_tells root n q k in
    elim (nat_cases (root n) q) [
      | inl e ↦ (n, omega arith, e)
      | inr ne ↦ (let k : is_root root n q ≡ true = grind (arith, nat_tests) in let r = rest k in let lt = r.1 in (r.0, omega arith, r.2))
    ]

pub root_here : (root : ℕ → ℕ) (n q i : ℕ) → i < n → root i ≡ q → is_root root n q ≡ true
root_here root zero q i lt e = absurd (omega arith)
root_here root (suc n) q i lt e =
    let rest = λ (k : i < n). root_here root n q i k e in
    elim (nat_cases i n) [
      | inl k ↦ (let same : root n ≡ q = ap root (sym k) ∙ e in grind (arith, nat_tests))
      | inr ne ↦ (let k = rest (omega arith) in grind (arith, nat_tests, bool_tells (is_root root n q)))
    ]

empty_tells : (es : List Entry) → is_empty es ≡ true → es ≡ []
empty_tells [] h = refl
empty_tells (e ∷ es) h = absurd (cc)

or_tells : (a b : Bool) → (a || b) ≡ true → (a ≡ true) ⊎ (b ≡ true)
or_tells true b h = inl refl
or_tells false b h = inr h

flip_tells : (b : Bool) → if◌then◌else◌ {A = Bool} b false true ≡ true → b ≡ false
flip_tells true h = absurd (cc)
flip_tells false h = refl

claimed_tells : (v : ℕ) (st : Status) → claimed_here v st ≡ false → st ≢ Claimed v
claimed_tells v Unclaimed h k = (cc)
claimed_tells v (Claimed u) h k = let e : u ≡ v = cc in grind (arith, nat_tests)
claimed_tells v (Done b) h k = (cc)
claimed_tells v Failed h k = (cc)
claimed_tells v Stolen h k = (cc)

claimed_not : (v : ℕ) (st : Status) → st ≢ Claimed v → claimed_here v st ≡ false
claimed_not v Unclaimed h = refl
claimed_not v (Claimed u) h = let ne : u ≢ v = λ e. h (ap Claimed e) in grind (arith, nat_tests)
claimed_not v (Done b) h = refl
claimed_not v Failed h = refl
claimed_not v Stolen h = refl

done_tells : (st : Status) → done st ≡ true → (b : ℕ) × (st ≡ Done b)
done_tells Unclaimed h = absurd (cc)
done_tells (Claimed u) h = absurd (cc)
done_tells (Done b) h = (b, refl)
done_tells Failed h = absurd (cc)
done_tells Stolen h = absurd (cc)

free_tells : (st : Status) → is_free st ≡ true → st ≡ Done 0
free_tells Unclaimed h = absurd (cc)
free_tells (Claimed u) h = absurd (cc)
free_tells (Done b) h = let e : b ≡ 0 = grind (arith, nat_tests) in ap Done e
free_tells Failed h = absurd (cc)
free_tells Stolen h = absurd (cc)

holds_tells : (o : Option ℕ) → holds_none o ≡ None → o ≡ None
holds_tells None h = refl
holds_tells (Some s) h = absurd (cc)

taken_tells : (c : State) (o : Option ℕ) → taken c o ≡ None → (s : ℕ) → o ≡ Some s → c.status s ≡ Stolen
taken_tells c None h s e = absurd (cc)
taken_tells c (Some t) h s e = let k : t ≡ s = cc in subst (λ (x : ℕ). c.status x ≡ Stolen) k (stolen_tells (c.status t) (unless_none (is_stolen (c.status t)) (w.Status (c.status t)) h))

not_is : (o : Option ℕ) (s : ℕ) → is o s ≡ false → o ≢ Some s
not_is o s h e = let k = is_here o s e in cc

module _ (p : Plan) (c : State) where
  look_fits : (v q : ℕ) (es : List Entry) → c.stack v ≡ es → ((is (next p c v) q || (is_empty (c.stack v) && is_root p.root p.roots q)) ≡ true) → WaitFits p (c.stack v) (c.root v) q
  look_fits v q es is_it h = elim (or_tells (is (next p c v) q) (is_empty (c.stack v) && is_root p.root p.roots q) h) [
    | inl k ↦ inl (is_tells (next p c v) q k)
    | inr k ↦ (let a = and_tells (is_empty (c.stack v)) (is_root p.root p.roots q) k in inr (empty_tells (c.stack v) a.0, root_tells p.root p.roots q a.1))
  ]

  borrow_legal : (v s : ℕ) → v < c.workers → s < p.queries → (es : List Entry) → c.stack v ≡ es → why_borrow p c v s es ≡ None → Legal p c (Borrow v s)
  borrow_legal v s lt lt' [] top h = absurd (cc)
  borrow_legal v s lt lt' (e ∷ es) top h =
      let a = or_none (unless (is (next_need (p.needs e.0) e.1) s && (if is (p.steals e.0) s then false else true)) (w.NotTop s)) _ h in
      let n = and_tells (is (next_need (p.needs e.0) e.1) s) (if is (p.steals e.0) s then false else true) (unless_none _ (w.NotTop s) a.0) in
      let b = or_none (unless (c.seen v s) (w.Unseen s)) _ a.1 in
      let d = or_none (holds_none (c.borrow v)) _ b.1 in
      let k = done_tells (c.status s) (unless_none (done (c.status s)) (w.Status (c.status s)) d.1) in (
        e,
        es,
        k.0,
        record {
          worker = lt;
          query = lt';
          top = top;
          next = is_tells (next_need (p.needs e.0) e.1) s n.0;
          kept = not_is (p.steals e.0) s (flip_tells (is (p.steals e.0) s) n.1);
          seen = unless_none (c.seen v s) (w.Unseen s) b.0;
          free = holds_tells (c.borrow v) d.0;
          done = k.1;
        },
      )

  steal_legal : (v s : ℕ) → v < c.workers → s < p.queries → (es : List Entry) → c.stack v ≡ es → why_steal p c v s es ≡ None → Legal p c (Steal v s)
  steal_legal v s lt lt' [] top h = absurd (cc)
  steal_legal v s lt lt' (e ∷ es) top h =
      let a = or_none (unless (is (p.steals e.0) s) (w.NotTop s)) _ h in
      let b = or_none (unless (all_seen p c v e) _) _ a.1 in (
        e,
        es,
        record {
          worker = lt;
          query = lt';
          top = top;
          steals = is_tells (p.steals e.0) s (unless_none _ (w.NotTop s) a.0);
          all_seen = all_seen_tells p c v e (unless_none (all_seen p c v e) _ b.0);
          done = free_tells (c.status s) (unless_none (is_free (c.status s)) _ b.1);
        },
      )

  publish_legal : (v : ℕ) → v < c.workers → (es : List Entry) → c.stack v ≡ es → why_publish p c v es ≡ None → Legal p c (Publish v)
  publish_legal v lt [] top h = absurd (cc)
  publish_legal v lt (e ∷ es) top h =
      let a = or_none (unless (all_seen p c v e) _) _ h in
      let b = or_none (holds_none (c.borrow v)) _ a.1 in (
        e,
        es,
        record {
          worker = lt;
          top = top;
          all_seen = all_seen_tells p c v e (unless_none (all_seen p c v e) _ a.0);
          free = holds_tells (c.borrow v) b.0;
          taken = taken_tells c (p.steals e.0) b.1;
        },
      )

  fail_legal : (v : ℕ) → v < c.workers → (es : List Entry) → c.stack v ≡ es → why_fail c v es ≡ None → Legal p c (Fail v)
  fail_legal v lt [] top h = absurd (cc)
  fail_legal v lt (e ∷ es) top h = (e, es, record { worker = lt; top = top; free = holds_tells (c.borrow v) h })

  draw_legal : (v : ℕ) → v < c.workers → (es : List Entry) → c.stack v ≡ es → (o : Option ℕ) → c.root v ≡ o → why_draw p c v es o ≡ None → Legal p c (Draw v)
  draw_legal v lt (e ∷ es) top o root h = absurd (cc)
  draw_legal v lt [] top None root h = record {
    worker = lt;
    empty = top;
    idle = λ r k. absurd (cc);
    left = within_left (unless_none (nat_lt c.drawn p.roots) (w.NoRoot c.drawn) h);
  }
    where
      within_left : nat_lt c.drawn p.roots ≡ true → c.drawn < p.roots
      within_left t = grind (arith, nat_tests)
  draw_legal v lt [] top (Some r) root h =
      let a = or_none (unless (c.seen v r || c.gone v r) (w.Busy r)) _ h in
      record {
        worker = lt;
        empty = top;
        idle = λ t k. (let same : r ≡ t = cc in subst (λ (x : ℕ). (c.seen v x ≡ true) ⊎ (c.gone v x ≡ true)) same (or_tells (c.seen v r) (c.gone v r) (unless_none _ (w.Busy r) a.0)));
        left = within_left (unless_none (nat_lt c.drawn p.roots) (w.NoRoot c.drawn) a.1);
      }
    where
      within_left : nat_lt c.drawn p.roots ≡ true → c.drawn < p.roots
      within_left t = grind (arith, nat_tests)

  pub no_reason_legal : (e : Event) → why p c e ≡ None → Legal p c e
  no_reason_legal (Claim v q) h =
      let a = or_none (within v c.workers) _ h in let b = or_none (within q p.queries) _ a.1 in
      let d = or_none (unless (is (next p c v) q) (w.NotTop q)) _ b.1 in
      record { worker = within_none v c.workers a.0; query = within_none q p.queries b.0; next = is_tells (next p c v) q (unless_none _ (w.NotTop q) d.0); free = untouched_tells (c.status q) (unless_none (untouched (c.status q)) _ d.1) }
  no_reason_legal (Look v q) h =
      let a = or_none (within v c.workers) _ h in let b = or_none (within q p.queries) _ a.1 in
      let d = or_none (unless (is (next p c v) q || (is_empty (c.stack v) && is_root p.root p.roots q)) (w.NotTop q)) _ b.1 in
      record {
        worker = within_none v c.workers a.0;
        query = within_none q p.queries b.0;
        next = look_fits v q (c.stack v) refl (unless_none _ (w.NotTop q) d.0);
        other = claimed_tells v (c.status q) (flip_tells (claimed_here v (c.status q)) (unless_none _ _ d.1));
      }
  no_reason_legal (Borrow v s) h =
      let a = or_none (within v c.workers) _ h in let b = or_none (within s p.queries) _ a.1 in
      borrow_legal v s (within_none v c.workers a.0) (within_none s p.queries b.0) (c.stack v) refl b.1
  no_reason_legal (Release v s) h =
      let a = or_none (within v c.workers) _ h in let b = or_none (within s p.queries) _ a.1 in
      record { worker = within_none v c.workers a.0; query = within_none s p.queries b.0; borrows = is_tells (c.borrow v) s (unless_none _ (w.Holds s) b.1) }
  no_reason_legal (Steal v s) h =
      let a = or_none (within v c.workers) _ h in let b = or_none (within s p.queries) _ a.1 in
      steal_legal v s (within_none v c.workers a.0) (within_none s p.queries b.0) (c.stack v) refl b.1
  no_reason_legal (Publish v) h = let a = or_none (within v c.workers) _ h in publish_legal v (within_none v c.workers a.0) (c.stack v) refl a.1
  no_reason_legal (Fail v) h = let a = or_none (within v c.workers) _ h in fail_legal v (within_none v c.workers a.0) (c.stack v) refl a.1
  no_reason_legal (Draw v) h = let a = or_none (within v c.workers) _ h in draw_legal v (within_none v c.workers a.0) (c.stack v) refl (c.root v) refl a.1

  at_top : {A : Type 0} (f : List Entry → A) (v : ℕ) (e : Entry) (es : List Entry) (x : A) → c.stack v ≡ e ∷ es → f (e ∷ es) ≡ x → f (c.stack v) ≡ x
  at_top f v e es x top h = ap f top ∙ h

  and_true : (a b : Bool) → a ≡ true → b ≡ true → (a && b) ≡ true
  and_true a b h k = ap (λ x. x && b) h ∙ k

  flip_true : (b : Bool) → b ≡ false → if◌then◌else◌ {A = Bool} b false true ≡ true
  flip_true b h = ap (λ x. if◌then◌else◌ {A = Bool} x false true) h

  is_not : (o : Option ℕ) (s : ℕ) → o ≢ Some s → is o s ≡ false
  is_not o s h = elim (bool_tells (is o s)) [ inl t ↦ absurd (h (is_tells o s t)) | inr f ↦ f ]

  or_left : (a b : Bool) → a ≡ true → (a || b) ≡ true
  or_left a b h = ap (λ x. x || b) h

  or_right : (a b : Bool) → b ≡ true → (a || b) ≡ true
  or_right true b h = refl
  or_right false b h = h

  seen_one : (v r : ℕ) → (c.seen v r ≡ true) ⊎ (c.gone v r ≡ true) → (c.seen v r || c.gone v r) ≡ true
  seen_one v r h = elim h [ inl k ↦ or_left (c.seen v r) (c.gone v r) k | inr k ↦ or_right (c.seen v r) (c.gone v r) k ]

  may_draw : (v : ℕ) (o : Option ℕ) → ((r : ℕ) → o ≡ Some r → (c.seen v r ≡ true) ⊎ (c.gone v r ≡ true)) → c.drawn < p.roots → why_draw p c v [] o ≡ None
  may_draw v None idle lt = no_unless (nat_lt c.drawn p.roots) (w.NoRoot c.drawn) (grind (arith, nat_tests))
  may_draw v (Some r) idle lt = both_none _ _ (no_unless (c.seen v r || c.gone v r) (w.Busy r) (seen_one v r (idle r refl))) (no_unless (nat_lt c.drawn p.roots) (w.NoRoot c.drawn) (grind (arith, nat_tests)))

  all_taken : (o : Option ℕ) → ((s : ℕ) → o ≡ Some s → c.status s ≡ Stolen) → taken c o ≡ None
  all_taken None h = refl
  all_taken (Some s) h = no_unless (is_stolen (c.status s)) (w.Status (c.status s)) (ap is_stolen (h s refl))

  pub legal_no_reason : (e : Event) → Legal p c e → why p c e ≡ None
  legal_no_reason (Claim v q) m = both_none _ _ (in_range v c.workers m.worker) (both_none _ _ (in_range q p.queries m.query)
      (both_none _ _ (no_unless (is (next p c v) q) (w.NotTop q) (is_here (next p c v) q m.next)) (no_unless (untouched (c.status q)) (w.Status (c.status q)) (ap untouched m.free))))
  legal_no_reason (Look v q) m = both_none _ _ (in_range v c.workers m.worker) (both_none _ _ (in_range q p.queries m.query)
      (both_none _ _
      (no_unless (is (next p c v) q || (is_empty (c.stack v) && is_root p.root p.roots q)) (w.NotTop q)
      (elim m.next [
        | inl k ↦ or_left (is (next p c v) q) (is_empty (c.stack v) && is_root p.root p.roots q) (is_here (next p c v) q k)
        | inr k ↦ or_right (is (next p c v) q) (is_empty (c.stack v) && is_root p.root p.roots q) (and_true (is_empty (c.stack v)) (is_root p.root p.roots q) (ap is_empty k.0) (root_here p.root p.roots q k.1.0 k.1.1 k.1.2))
      ]))
      (no_unless _ (w.Status (c.status q)) (flip_true (claimed_here v (c.status q)) (claimed_not v (c.status q) m.other)))))
  legal_no_reason (Borrow v s) m = let k = m.3 in let e = m.0 in both_none _ _ (in_range v c.workers k.worker) (both_none _ _ (in_range s p.queries k.query)
      (at_top (why_borrow p c v s) v m.0 m.1 None k.top
      (both_none _ _ (no_unless _ (w.NotTop s) (and_true (is (next_need (p.needs e.0) e.1) s) _ (is_here (next_need (p.needs e.0) e.1) s k.next) (flip_true (is (p.steals e.0) s) (is_not (p.steals e.0) s k.kept))))
      (both_none _ _ (no_unless (c.seen v s) (w.Unseen s) k.seen) (both_none _ _ (ap holds_none k.free) (no_unless (done (c.status s)) (w.Status (c.status s)) (ap done k.done)))))))
  legal_no_reason (Release v s) m = both_none _ _ (in_range v c.workers m.worker) (both_none _ _ (in_range s p.queries m.query) (no_unless (is (c.borrow v) s) (w.Holds s) (is_here (c.borrow v) s m.borrows)))
  legal_no_reason (Steal v s) m = let k = m.2 in let e = m.0 in both_none _ _ (in_range v c.workers k.worker) (both_none _ _ (in_range s p.queries k.query)
      (at_top (why_steal p c v s) v m.0 m.1 None k.top
      (both_none _ _ (no_unless (is (p.steals e.0) s) (w.NotTop s) (is_here (p.steals e.0) s k.steals))
      (both_none _ _ (no_unless (all_seen p c v e) _ (all_seen_from p c v e k.all_seen)) (no_unless (is_free (c.status s)) (w.Status (c.status s)) (ap is_free k.done))))))
  legal_no_reason (Publish v) m = let k = m.2 in let e = m.0 in both_none _ _ (in_range v c.workers k.worker)
      (at_top (why_publish p c v) v m.0 m.1 None k.top
      (both_none _ _ (no_unless (all_seen p c v e) _ (all_seen_from p c v e k.all_seen)) (both_none _ _ (ap holds_none k.free) (all_taken (p.steals e.0) k.taken))))
  legal_no_reason (Fail v) m = let k = m.2 in both_none _ _ (in_range v c.workers k.worker) (at_top (why_fail c v) v m.0 m.1 None k.top (ap holds_none k.free))
  legal_no_reason (Draw v) m = both_none _ _ (in_range v c.workers m.worker) (ap (λ es. why_draw p c v es (c.root v)) m.empty ∙ may_draw v (c.root v) m.idle m.left)
