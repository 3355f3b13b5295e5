-- While a root is left and no query failed, the turn of some worker goes on.
use Rattle.std.proofs.Common.{◌≡◌, ◌≢◌, ℕ, zero, suc, ◌<◌, ◌≤◌, Bool, true, false, List, [], ◌∷◌, ◌⊎◌, inl, inr, refl, sym, subst, arith}
use Rattle.std.specs.Prelude.{Option, Some, None, nat_lt, if◌then◌else◌}
use Rattle.sched_core.specs.declared.Status.{Status}
use Rattle.sched_core.specs.declared.Status.TheVariants.{Unclaimed, Claimed, Done, Failed, Stolen}
use Rattle.sched_core.specs.declared.Event.{Event}
use Rattle.sched_core.specs.declared.Event.TheVariants.{Claim, Look, Borrow, Release, Steal, Publish, Draw}
use Rattle.sched_core.specs.Plan.{Plan, IsLawful, next_need}
use Rattle.sched_core.specs.State.{State, Entry, next_of_top, settled, done, untouched, AllSeen, all_seen, is_stolen}
use Rattle.sched_core.specs.Good.{Good, GivenSeen}
use Rattle.sched_core.specs.Turn.{drawing, turn_empty, ending, turn_top, turn_free, turn_of, turn, Useful}
use Rattle.sched_core.proofs.Lists.{next_in, next_none, nat_cases, stolen_in}
use Rattle.sched_core.proofs.Parts.{root_done}
use Rattle.sched_core.proofs.Waiting.{Top, owner_top}
use Rattle.sched_core.proofs.Turns.{all_seen_from}
use Rattle.std.proofs.lemmas.Bool.Decides.{nat_tests}

-- what a status is that isn't failed
status_tells : (st : Status) → st ≢ Failed → untouched st ≡ false → (settled st ≡ true) ⊎ ((v : ℕ) × (st ≡ Claimed v))
status_tells Unclaimed h k = absurd (cc)
status_tells (Claimed v) h k = inr (v, refl)
status_tells (Done b) h k = inl refl
status_tells Failed h k = absurd (h refl)
status_tells Stolen h k = inl refl

module _ (p : Plan) (c : State) (l : IsLawful p) (g : Good p c) (clean : (q : ℕ) → c.status q ≢ Failed) where
  -- a worker with nothing left to do
  Passes : ℕ → Type 0
  Passes w = (c.stack w ≡ []) × (p.roots ≤ c.drawn) × ((r : ℕ) → c.root w ≡ Some r → c.seen w r ≡ true)

  GoesOn : ℕ → Option Event → Type 0
  GoesOn w o = (e : Event) × (o ≡ Some e) × Useful c e

  -- it looks at what another worker has
  Held : ℕ → Type 0
  Held w = (q v : ℕ) × (next_of_top p (c.stack w) (c.root w) ≡ Some q) × (c.status q ≡ Claimed v)

  Tells : ℕ → Option Event → Type 0
  Tells w o = Passes w ⊎ GoesOn w o ⊎ Held w

  on : (w : ℕ) (e : Event) → Useful c e → Tells w (Some e)
  unfolding Tells GoesOn
  on w e u = inr (inl (e, refl, u))

  pick : (w : ℕ) (b : Bool) (x y : Option Event) → (b ≡ true → Tells w x) → (b ≡ false → Tells w y) → Tells w (if b then x else y)
  pick w true x y h k = h refl
  pick w false x y h k = k refl

  looks : (w q : ℕ) → next_of_top p (c.stack w) (c.root w) ≡ Some q → untouched (c.status q) ≡ false → c.seen w q ≡ false → Tells w (Some (Look w q))
  unfolding Tells Held
  looks w q n u s = elim (status_tells (c.status q) (clean q) u) [ inl k ↦ on w (Look w q) (k, s) | inr k ↦ inr (inr (q, k.0, n, k.1)) ]

  draws : (w : ℕ) → c.stack w ≡ [] → ((r : ℕ) → c.root w ≡ Some r → c.seen w r ≡ true) → Tells w (drawing p c w)
  unfolding Tells Passes
  draws w empty idle = pick w (nat_lt c.drawn p.roots) (Some (Draw w)) None (λ _. on w (Draw w) tt) (λ b. inl (empty, grind (arith, nat_tests), idle))

  empty_tells : (w : ℕ) → c.stack w ≡ [] → (o : Option ℕ) → c.root w ≡ o → Tells w (turn_empty p c w o)
  empty_tells w empty None root = draws w empty (λ r h. absurd (cc))
  empty_tells w empty (Some r) root =
      let n : next_of_top p (c.stack w) (c.root w) ≡ Some r = subst (λ (xs : List Entry). next_of_top p xs (c.root w) ≡ Some r) (sym empty) root in
      pick w (c.seen w r) (drawing p c w) (if untouched (c.status r) then Some (Claim w r) else Some (Look w r))
      (λ s. draws w empty (λ t h. let k : r ≡ t = cc in subst (λ (x : ℕ). c.seen w x ≡ true) k s))
      (λ s. pick w (untouched (c.status r)) (Some (Claim w r)) (Some (Look w r)) (λ _. on w (Claim w r) tt) (λ u. looks w r n u s))

  ends_tells : (w : ℕ) (o : Option ℕ) → Tells w (ending c w o)
  ends_tells w None = on w (Publish w) tt
  ends_tells w (Some s) = pick w (is_stolen (c.status s)) (Some (Publish w)) (Some (Steal w s)) (λ _. on w (Publish w) tt) (λ _. on w (Steal w s) tt)

  -- with all needs given, what the top steals is given too, and so seen
  none_seen : (w : ℕ) (e : Entry) (es : List Entry) → c.stack w ≡ e ∷ es → next_need (p.needs e.0) e.1 ≡ None → AllSeen p c w e
  none_seen w e es top n =
      let given = next_none (p.needs e.0) e.1 n in
      let seen = subst (λ (xs : List Entry). GivenSeen (c.seen w) xs) top (g.given w) in
      ((λ m h _. given m h), (λ s t. seen.0 s (given s (stolen_in p l e.0 s t))))

  top_tells : (w : ℕ) (e : Entry) (es : List Entry) → c.stack w ≡ e ∷ es → (o : Option ℕ) → next_need (p.needs e.0) e.1 ≡ o → Tells w (turn_top p c w e o)
  top_tells w e es top None n = pick w (all_seen p c w e) (ending c w (p.steals e.0)) None (λ _. ends_tells w (p.steals e.0))
      (λ b. absurd (let a = all_seen_from p c w e (none_seen w e es top n) in (cc)))
  top_tells w e es top (Some q) n =
      let m : next_of_top p (c.stack w) (c.root w) ≡ Some q = subst (λ (xs : List Entry). next_of_top p xs (c.root w) ≡ Some q) (sym top) n in
      pick w (untouched (c.status q)) (Some (Claim w q)) (if all_seen p c w e then ending c w (p.steals e.0) else (if c.seen w q then Some (Borrow w q) else Some (Look w q)))
      (λ _. on w (Claim w q) tt)
      (λ u. pick w (all_seen p c w e) (ending c w (p.steals e.0)) (if c.seen w q then Some (Borrow w q) else Some (Look w q))
      (λ _. ends_tells w (p.steals e.0))
      (λ _. pick w (c.seen w q) (Some (Borrow w q)) (Some (Look w q)) (λ _. on w (Borrow w q) tt) (λ s. looks w q m u s)))

  free_tells : (w : ℕ) (xs : List Entry) → c.stack w ≡ xs → Tells w (turn_free p c w xs)
  free_tells w [] is_it = empty_tells w is_it (c.root w) refl
  free_tells w (e ∷ es) is_it = top_tells w e es is_it (next_need (p.needs e.0) e.1) refl

  of_tells : (w : ℕ) (o : Option ℕ) → Tells w (turn_of p c w o)
  of_tells w None = free_tells w (c.stack w) refl
  of_tells w (Some s) = on w (Release w s) tt

  tells : (w : ℕ) → Tells w (turn p c w)
  tells w = of_tells w (c.borrow w)

  Found : Type 0
  Found = (w : ℕ) × (w < c.workers) × (e : Event) × (turn p c w ≡ Some e) × Useful c e

  -- who has a stack is a worker
  has_seat : (v : ℕ) (e : Entry) (es : List Entry) → c.stack v ≡ e ∷ es → v < c.workers
  has_seat v e es top = elim (le_cases c.workers v) [ inl le ↦ absurd (let none = (g.seated v le).stack in (cc)) | inr lt ↦ lt ]
    where
      le_cases : (a b : ℕ) → (a ≤ b) ⊎ (b < a)
      le_cases a b = grind (arith, nat_tests)

  -- down the waits, each of a lesser rank
  descend : (n v : ℕ) (e : Entry) (es : List Entry) → c.stack v ≡ e ∷ es → p.rank e.0 < n → Found
  unfolding Found Tells Passes GoesOn Held Top
  descend zero v e es top less = absurd (omega arith)
  descend (suc n) v e es top less =
      let deeper = descend n in
      elim (tells v) [
        | inl pass ↦ absurd (let none = pass.0 in (cc))
        | inr (inl go) ↦ (v, has_seat v e es top, go.0, go.1, go.2)
        | inr (inr held) ↦
            (let n' : next_need (p.needs e.0) e.1 ≡ Some held.0 = subst (λ (xs : List Entry). next_of_top p xs (c.root v) ≡ Some held.0) top held.2 in
            let falls = l.no_cycle e.0 held.0 (next_in (p.needs e.0) e.1 held.0 n') in
            let o = owner_top p c l g held.1 held.0 held.3 in
            let le = o.3 in
            deeper held.1 o.0 o.1 o.2 (omega arith))
      ]

  from : (w : ℕ) → w < c.workers → Found ⊎ Passes w
  unfolding Found Tells GoesOn Held Top
  from w lt = elim (tells w) [
    | inl pass ↦ inr pass
    | inr (inl go) ↦ inl (w, lt, go.0, go.1, go.2)
    | inr (inr held) ↦ (let o = owner_top p c l g held.1 held.0 held.3 in inl (descend (suc (p.rank o.0.0)) held.1 o.0 o.1 o.2 (omega arith)))
  ]

  scan : (k : ℕ) → k ≤ c.workers → Found ⊎ ((w : ℕ) → w < k → Passes w)
  scan zero le = inr (λ w lt. absurd (omega arith))
  scan (suc k) le =
      let earlier = scan k (omega arith) in
      let here = from k (omega arith) in
      elim earlier [
        | inl f ↦ inl f
        | inr all ↦ elim here [ inl f ↦ inl f | inr pass ↦ inr (λ w lt. elim (nat_cases w k) [ inl e ↦ subst Passes (sym e) pass | inr ne ↦ all w (omega arith) ]) ]
      ]

  pub goes_on : (i : ℕ) → i < p.roots → 0 < c.workers → done (c.status (p.root i)) ≡ false → (w : ℕ) × (w < c.workers) × (e : Event) × (turn p c w ≡ Some e) × Useful c e
  unfolding Found Passes
  goes_on i lt some_worker open_root = elim (scan c.workers (omega arith)) [
    | inl f ↦ f
    | inr all ↦ absurd (
        let none = (all 0 some_worker).1 in
        elim (g.drawn i (omega arith)) [
          | inl d ↦ cc
          | inr (inl f) ↦ clean (p.root i) f
          | inr (inr h) ↦ (let s = (all h.0 h.1).2 (p.root i) h.2 in let d = root_done p c l g i h.0 s in (cc))
        ])
  ]
