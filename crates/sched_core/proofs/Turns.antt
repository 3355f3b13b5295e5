-- Each turn is a legal event or passes, and some turn goes on.
use Rattle.std.proofs.Common.{◌≡◌, ◌≢◌, ℕ, ◌<◌, Bool, true, false, List, [], ◌∷◌, ◌++◌, ◌⊎◌, inl, inr, refl, sym, subst, ap, ◌∙◌, arith, ◌&&◌}
use Rattle.std.specs.Prelude.{Option, Some, None, nat_lt, if◌then◌else◌}
use Rattle.sched_core.specs.declared.Status.{Status}
use Rattle.sched_core.specs.declared.Status.TheVariants.{Unclaimed, Claimed, Done, Failed, Stolen}
use Rattle.sched_core.specs.declared.Event.{Event}
use Rattle.sched_core.specs.declared.Event.TheVariants.{Claim, Look, Borrow, Release, Steal, Publish, Draw}
use Rattle.sched_core.specs.Plan.{Plan, IsLawful, has, next_need}
use Rattle.sched_core.specs.State.{State, Entry, queries_of, next_of_top, untouched, is, AllSeen, Legal, all_given, seen_if, all_seen, is_stolen}
use Rattle.sched_core.specs.Good.{Good, Chained}
use Rattle.sched_core.specs.Turn.{drawing, turn_empty, ending, turn_top, turn_free, turn_of, turn}
use Rattle.sched_core.proofs.Lists.{bool_tells, next_stands, next_in, next_last, has_snoc, stolen_in, has_first, has_tells}
use Rattle.sched_core.proofs.Waiting.{top_least, read_is_done, stolen_is_free}
use Rattle.std.proofs.lemmas.Bool.Decides.{nat_tests}

-- what the tests tell
pub is_tells : (o : Option ℕ) (n : ℕ) → is o n ≡ true → o ≡ Some n
is_tells None n h = absurd (cc)
is_tells (Some m) n h = let e : m ≡ n = grind (arith, nat_tests) in ap Some e

pub is_here : (o : Option ℕ) (n : ℕ) → o ≡ Some n → is o n ≡ true
is_here None n h = absurd (cc)
is_here (Some m) n h = let e : m ≡ n = cc in grind (arith, nat_tests)

pub untouched_tells : (st : Status) → untouched st ≡ true → st ≡ Unclaimed
untouched_tells Unclaimed h = refl
untouched_tells (Claimed w) h = absurd (cc)
untouched_tells (Done b) h = absurd (cc)
untouched_tells Failed h = absurd (cc)
untouched_tells Stolen h = absurd (cc)

pub stolen_tells : (st : Status) → is_stolen st ≡ true → st ≡ Stolen
stolen_tells Unclaimed h = absurd (cc)
stolen_tells (Claimed w) h = absurd (cc)
stolen_tells (Done b) h = absurd (cc)
stolen_tells Failed h = absurd (cc)
stolen_tells Stolen h = refl

pub all_given_tells : (given : List ℕ) (steals : Option ℕ) (ns : List ℕ) → all_given given steals ns ≡ true → (n : ℕ) → has n ns ≡ true → steals ≢ Some n → has n given ≡ true
all_given_tells given steals [] h n k ne = absurd (cc)
all_given_tells given steals (m ∷ ms) h n k ne =
    let r = λ (a : all_given given steals ms ≡ true). all_given_tells given steals ms a n in
    let not : is steals n ≡ false = elim (bool_tells (is steals n)) [ inl t ↦ absurd (ne (is_tells steals n t)) | inr f ↦ f ] in
    grind (arith, nat_tests, bool_tells (is steals m), bool_tells (has m given), r)

pub all_given_from : (given : List ℕ) (steals : Option ℕ) (ns : List ℕ) → ((n : ℕ) → has n ns ≡ true → steals ≢ Some n → has n given ≡ true) → all_given given steals ns ≡ true
all_given_from given steals [] h = refl
all_given_from given steals (m ∷ ms) h =
    let r : all_given given steals ms ≡ true = all_given_from given steals ms (λ n k ne. h n (more n k) ne) in
    elim (bool_tells (is steals m)) [
      | inl t ↦ grind (arith, nat_tests, bool_tells (has m given))
      | inr f ↦ (let i = h m here (λ e. let b = is_here steals m e in cc) in grind (arith, nat_tests))
    ]
  where
    more : (n : ℕ) → has n ms ≡ true → has n (m ∷ ms) ≡ true
    more n k = grind (arith, nat_tests)

    here : has m (m ∷ ms) ≡ true
    here = grind (arith, nat_tests)

pub and_tells : (a b : Bool) → (a && b) ≡ true → (a ≡ true) × (b ≡ true)
and_tells true b h = (refl, h)
and_tells false b h = absurd (cc)

seen_if_tells : (f : ℕ → Bool) (o : Option ℕ) → seen_if f o ≡ true → (s : ℕ) → o ≡ Some s → f s ≡ true
seen_if_tells f None h s e = absurd (cc)
seen_if_tells f (Some t) h s e = let k : t ≡ s = cc in subst (λ (x : ℕ). f x ≡ true) k h

module _ (p : Plan) (c : State) where
  pub all_seen_tells : (w : ℕ) (e : Entry) → all_seen p c w e ≡ true → AllSeen p c w e
  all_seen_tells w e h = let a = and_tells (all_given e.1 (p.steals e.0) (p.needs e.0)) (seen_if (c.seen w) (p.steals e.0)) h in
      (all_given_tells e.1 (p.steals e.0) (p.needs e.0) a.0, seen_if_tells (c.seen w) (p.steals e.0) a.1)

  pub all_seen_from : (w : ℕ) (e : Entry) → AllSeen p c w e → all_seen p c w e ≡ true
  all_seen_from w e h =
      let a : all_given e.1 (p.steals e.0) (p.needs e.0) ≡ true = all_given_from e.1 (p.steals e.0) (p.needs e.0) h.0 in
      let b : seen_if (c.seen w) (p.steals e.0) ≡ true = by (p.steals e.0) h.1 in
      λ i. a i && b i
    where
      by : (o : Option ℕ) → ((s : ℕ) → o ≡ Some s → c.seen w s ≡ true) → seen_if (c.seen w) o ≡ true
      by None k = refl
      by (Some s) k = k s refl

module _ (p : Plan) (c : State) (l : IsLawful p) (g : Good p c) (w : ℕ) (lt : w < c.workers) where
  -- queries in a stack are queries, as roots and needs are
  stack_below : (root : Option ℕ) (es : List Entry) → ((r : ℕ) → root ≡ Some r → r < p.queries) → Chained p root es → (q : ℕ) → has q (queries_of es) ≡ true → q < p.queries
  stack_below root [] r h q k = absurd (cc)
  stack_below root (e ∷ []) r h q k = let is_it : q ≡ e.0 = grind (arith, nat_tests) in let b = r e.0 h.0 in omega arith
  stack_below root (e ∷ (f ∷ fs)) r h q k =
      let below = stack_below root (f ∷ fs) r h.1 in
      let first = l.needs_below f.0 e.0 (below f.0 (has_first f.0 (queries_of fs))) h.0.0 in
      elim (has_tells q e.0 (queries_of (f ∷ fs)) k) [ inl i ↦ (omega arith) | inr i ↦ below q i ]

  root_below : (r : ℕ) → c.root w ≡ Some r → r < p.queries
  root_below r h = let i = g.rooted w r h in let lt = i.1 in let most = g.limit in let b = l.roots_below i.0 (omega arith) in let e = i.2 in omega arith

  pub top_below : (e : Entry) (es : List Entry) → c.stack w ≡ e ∷ es → e.0 < p.queries
  top_below e es top = stack_below (c.root w) (e ∷ es) root_below (subst (λ (xs : List Entry). Chained p (c.root w) xs) top (g.chained w)) e.0 (has_first e.0 (queries_of es))

  LegalIf : Option Event → Type 0
  LegalIf o = (e : Event) → o ≡ Some e → Legal p c e

  only : (e : Event) → Legal p c e → LegalIf (Some e)
  unfolding LegalIf
  only e h f k = let same : e ≡ f = cc in subst (λ (x : Event). Legal p c x) same h

  never : LegalIf None
  unfolding LegalIf
  never f k = absurd (cc)

  pick : (b : Bool) (x y : Option Event) → (b ≡ true → LegalIf x) → (b ≡ false → LegalIf y) → LegalIf (if b then x else y)
  pick true x y h k = h refl
  pick false x y h k = k refl

  -- nothing in the own stack is its next need
  not_mine : (q : ℕ) → next_of_top p (c.stack w) (c.root w) ≡ Some q → c.status q ≢ Claimed w
  not_mine q n k = by (c.stack w) refl (g.placed w q k) (g.chained w) n
    where
      by : (es : List Entry) → c.stack w ≡ es → has q (queries_of es) ≡ true → Chained p (c.root w) es → next_of_top p es (c.root w) ≡ Some q → ⊥
      by [] is h k n = absurd (cc)
      by (e ∷ es) is h k n =
          let s = next_stands p (e ∷ es) (c.root w) q n in
          let a = l.no_cycle e.0 q s.0 in
          let b = top_least p c l g (c.root w) e es q k h in omega arith

  draws_legal : c.stack w ≡ [] → ((r : ℕ) → c.root w ≡ Some r → (c.seen w r ≡ true) ⊎ (c.gone w r ≡ true)) → LegalIf (drawing p c w)
  draws_legal empty idle = pick (nat_lt c.drawn p.roots) (Some (Draw w)) None
      (λ h. only (Draw w) (record { worker = lt; empty = empty; idle = idle; left = grind (arith, nat_tests) })) (λ _. never)

  empty_legal : c.stack w ≡ [] → (o : Option ℕ) → c.root w ≡ o → LegalIf (turn_empty p c w o)
  empty_legal empty None root = draws_legal empty (λ r h. absurd (cc))
  empty_legal empty (Some r) root =
      let n : next_of_top p (c.stack w) (c.root w) ≡ Some r = subst (λ (xs : List Entry). next_of_top p xs (c.root w) ≡ Some r) (sym empty) root in
      pick (c.seen w r) (drawing p c w) (if untouched (c.status r) then Some (Claim w r) else Some (Look w r))
      (λ s. draws_legal empty (λ t h. let k : r ≡ t = cc in inl (subst (λ (x : ℕ). c.seen w x ≡ true) k s)))
      (λ _. pick (untouched (c.status r)) (Some (Claim w r)) (Some (Look w r))
      (λ u. only (Claim w r) (record { worker = lt; query = root_below r root; next = n; free = untouched_tells (c.status r) u }))
      (λ _. only (Look w r) (record { worker = lt; query = root_below r root; next = inl n; other = not_mine r n })))

  module _ (e : Entry) (es : List Entry) (top : c.stack w ≡ e ∷ es) (free : c.borrow w ≡ None) where
    ends_legal : AllSeen p c w e → LegalIf (ending c w (p.steals e.0))
    ends_legal all = by (p.steals e.0) refl
      where
        by : (o : Option ℕ) → p.steals e.0 ≡ o → LegalIf (ending c w o)
        by None h = only (Publish w) (e, es, record { worker = lt; top = top; all_seen = all; free = free; taken = λ s k. absurd (cc) })
        by (Some s) h = pick (is_stolen (c.status s)) (Some (Publish w)) (Some (Steal w s))
            (λ b. only (Publish w) (e, es, record { worker = lt; top = top; all_seen = all; free = free; taken = λ t k. let same : s ≡ t = cc in subst (λ (x : ℕ). c.status x ≡ Stolen) same (stolen_tells (c.status s) b) }))
            (λ b. only (Steal w s) (
              e,
              es,
              record {
                worker = lt;
                query = s_below s h;
                top = top;
                steals = h;
                all_seen = all;
                done = stolen_is_free p c l g w s e es top h all (λ k. let t = ap is_stolen k in cc);
              },
            ))
          where
            s_below : (s : ℕ) → p.steals e.0 ≡ Some s → s < p.queries
            s_below s h = l.needs_below e.0 s (top_below e es top) (stolen_in p l e.0 s h)

    -- where the next need is what the top steals, and it was seen, all needs are seen
    all_but_last : (q : ℕ) → next_need (p.needs e.0) e.1 ≡ Some q → p.steals e.0 ≡ Some q → c.seen w q ≡ true → AllSeen p c w e
    all_but_last q n t s =
        let k = l.stolen_last q e.0 t in
        let n' : next_need (k.0 ++ q ∷ []) e.1 ≡ Some q = subst (λ (xs : List ℕ). next_need xs e.1 ≡ Some q) k.1 n in (
          (λ m h ne. elim (has_snoc k.0 q m (subst (λ (xs : List ℕ). has m xs ≡ true) k.1 h)) [ inl i ↦ next_last k.0 q e.1 k.2 n' m i | inr i ↦ absurd (ne (t ∙ ap Some (sym i))) ]),
          (λ m h. let same : q ≡ m = cc in subst (λ (x : ℕ). c.seen w x ≡ true) same s),
        )

    top_legal : (o : Option ℕ) → next_need (p.needs e.0) e.1 ≡ o → LegalIf (turn_top p c w e o)
    top_legal None n = pick (all_seen p c w e) (ending c w (p.steals e.0)) None (λ a. ends_legal (all_seen_tells p c w e a)) (λ _. never)
    top_legal (Some q) n =
        let m : next_of_top p (c.stack w) (c.root w) ≡ Some q = subst (λ (xs : List Entry). next_of_top p xs (c.root w) ≡ Some q) (sym top) n in
        let b = l.needs_below e.0 q (top_below e es top) (next_in (p.needs e.0) e.1 q n) in
        pick (untouched (c.status q)) (Some (Claim w q)) (if all_seen p c w e then ending c w (p.steals e.0) else (if c.seen w q then Some (Borrow w q) else Some (Look w q)))
        (λ u. only (Claim w q) (record { worker = lt; query = b; next = m; free = untouched_tells (c.status q) u }))
        (λ _. pick (all_seen p c w e) (ending c w (p.steals e.0)) (if c.seen w q then Some (Borrow w q) else Some (Look w q))
        (λ a. ends_legal (all_seen_tells p c w e a))
        (λ a. pick (c.seen w q) (Some (Borrow w q)) (Some (Look w q))
        (λ s.
        let kept : p.steals e.0 ≢ Some q = λ t. let all = all_seen_from p c w e (all_but_last q n t s) in (cc) in
        let d = read_is_done p c l g w q e es top (next_in (p.needs e.0) e.1 q n, kept) s in
        only (Borrow w q) (e, es, d.0, record { worker = lt; query = b; top = top; next = n; kept = kept; seen = s; free = free; done = d.1 }))
        (λ _. only (Look w q) (record { worker = lt; query = b; next = inl m; other = not_mine q m }))))

  free_legal : c.borrow w ≡ None → (xs : List Entry) → c.stack w ≡ xs → LegalIf (turn_free p c w xs)
  free_legal free [] is_it = empty_legal is_it (c.root w) refl
  free_legal free (e ∷ es) is_it = top_legal e es is_it free (next_need (p.needs e.0) e.1) refl

  of_legal : (o : Option ℕ) → c.borrow w ≡ o → LegalIf (turn_of p c w o)
  of_legal None h = free_legal h (c.stack w) refl
  of_legal (Some s) h = let o = g.borrowed w s h in only (Release w s) (record { worker = lt; query = l.needs_below o.top.0 s (top_below o.top o.rest o.stack) o.reads.0; borrows = h })

  pub turn_legal : (e : Event) → turn p c w ≡ Some e → Legal p c e
  unfolding LegalIf
  turn_legal = of_legal (c.borrow w) refl
