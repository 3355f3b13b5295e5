-- No stolen slot is read, and waits are never circular.
use Rattle.std.proofs.Common.{◌≡◌, ◌≢◌, ℕ, ◌<◌, ◌≤◌, true, List, [], ◌∷◌, inl, inr, refl, sym, subst, ap, ◌∙◌, arith}
use Rattle.std.specs.Prelude.{Option, Some}
use Rattle.sched_core.specs.declared.Status.{Status}
use Rattle.sched_core.specs.declared.Status.TheVariants.{Unclaimed, Claimed, Done, Failed, Stolen}
use Rattle.sched_core.specs.Plan.{Plan, IsLawful, has, next_need, Reads}
use Rattle.sched_core.specs.State.{State, Entry, queries_of, next_of_top, settled, borrowers, AllSeen, is}
use Rattle.sched_core.specs.Good.{Good, Chained}
use Rattle.sched_core.proofs.Lists.{next_stands, borrowers_none, has_tells}
use Rattle.std.proofs.lemmas.Bool.Decides.{nat_tests}
use Rattle.sched_core.specs.Waits.{WaitsFor, Chain}
use Rattle.sched_core.proofs.Steals.{top_claimed, readers_settled}

settled_unstolen : (st : Status) → settled st ≡ true → st ≢ Stolen → (b : ℕ) × (st ≡ Done b)
settled_unstolen Unclaimed h n = absurd (cc)
settled_unstolen (Claimed x) h n = absurd (cc)
settled_unstolen (Done b) h n = (b, refl)
settled_unstolen Failed h n = absurd (cc)
settled_unstolen Stolen h n = absurd (n refl)

module _ (p : Plan) (c : State) (l : IsLawful p) (g : Good p c) where
  -- a worker whose top reads s, and that has seen s, finds it done
  pub read_is_done : (w s : ℕ) (e : Entry) (es : List Entry) → c.stack w ≡ e ∷ es → Reads p e.0 s → c.seen w s ≡ true → (b : ℕ) × (c.status s ≡ Done b)
  read_is_done w s e es top k h = settled_unstolen (c.status s) (g.seen w s h)
      (λ st. let r = g.readers s e.0 st k in let t = top_claimed p c l g w e es top in let bad : settled (Claimed w) ≡ true = subst (λ (x : Status). settled x ≡ true) t r in (cc))

  -- a worker whose top steals s, with all needs seen and s not stolen yet, finds it done without borrowers
  pub stolen_is_free : (w s : ℕ) (e : Entry) (es : List Entry) → c.stack w ≡ e ∷ es → p.steals e.0 ≡ Some s → AllSeen p c w e → c.status s ≢ Stolen → c.status s ≡ Done 0
  stolen_is_free w s e es top t all un =
      let d = settled_unstolen (c.status s) (g.seen w s (all.1 s t)) un in
      let none : borrowers c.borrow c.workers s ≡ 0 = borrowers_none c.borrow s c.workers (λ v _ h. busy v h) in
      d.1 ∙ ap Done (g.counted s d.0 d.1 ∙ none)
    where
      busy : (v : ℕ) → c.borrow v ≡ Some s → ⊥
      busy v h =
          let o = g.borrowed v s h in
          let r = readers_settled p c l g w s o.top.0 e es top t all o.reads in
          let k = top_claimed p c l g v o.top o.rest o.stack in
          let bad : settled (Claimed v) ≡ true = subst (λ (x : Status). settled x ≡ true) k r in (cc)

  -- the top is needed by each query below it, or is it
  pub top_least : (root : Option ℕ) (e : Entry) (es : List Entry) (q : ℕ) → Chained p root (e ∷ es) → has q (queries_of (e ∷ es)) ≡ true → p.rank e.0 ≤ p.rank q
  top_least root e [] q h k = let is_it : q ≡ e.0 = grind (arith, nat_tests) in let r = ap p.rank is_it in omega arith
  top_least root e (f ∷ fs) q h k =
      let less = l.no_cycle f.0 e.0 h.0.0 in
      let rest = top_least root f fs q h.1 in
      elim (has_tells q e.0 (queries_of (f ∷ fs)) k) [ inl i ↦ (let r = ap p.rank i in omega arith) | inr i ↦ (let r = rest i in omega arith) ]

  unfoldable pub Top : ℕ → (ℕ → Type 0) → Type 0
  Top v P = (e : Entry) × (es : List Entry) × (c.stack v ≡ e ∷ es) × P (p.rank e.0)

  -- the worker that has a query has a top, of a rank that is no greater
  pub owner_top : (v q : ℕ) → c.status q ≡ Claimed v → Top v (λ r. r ≤ p.rank q)
  unfolding Top
  owner_top v q h = by (c.stack v) refl (g.placed v q h) (g.chained v)
    where
      by : (es : List Entry) → c.stack v ≡ es → has q (queries_of es) ≡ true → Chained p (c.root v) es → (e : Entry) × (es : List Entry) × (c.stack v ≡ e ∷ es) × (p.rank e.0 ≤ p.rank q)
      by [] is h k = absurd (cc)
      by (e ∷ es) is h k = (e, es, is, top_least (c.root v) e es q k h)

  -- one wait goes from a worker to one whose top has a lesser rank
  wait_falls : (w v : ℕ) (e : Entry) (es : List Entry) → c.stack w ≡ e ∷ es → WaitsFor c w v → Top v (λ r. r < p.rank e.0)
  unfolding Top
  wait_falls w v e es top h =
      let o = owner_top v h.0 h.2 in
      elim (g.waiting w h.0 h.1) [
        | inl n ↦
            (let n' : next_need (p.needs e.0) e.1 ≡ Some h.0 = subst (λ (xs : List Entry). next_of_top p xs (c.root w) ≡ Some h.0) top n in
            let k = next_stands p (e ∷ es) (c.root w) h.0 n' in
            let less = l.no_cycle e.0 h.0 k.0 in
            let le = o.3 in
            (o.0, o.1, o.2, omega arith))
        | inr n ↦ absurd (let none = n.0 in (cc))
      ]

  chain_falls : (w : ℕ) (us : List ℕ) (v : ℕ) (e : Entry) (es : List Entry) → c.stack w ≡ e ∷ es → Chain c w us v → Top v (λ r. r < p.rank e.0)
  unfolding Top
  chain_falls w [] v e es top h = wait_falls w v e es top h
  chain_falls w (u ∷ us) v e es top h =
      let o = wait_falls w u e es top h.0 in
      let r = chain_falls u us v o.0 o.1 o.2 h.1 in
      let a = o.3 in let b = r.3 in
      (r.0, r.1, r.2, omega arith)

  chain_ends : (w : ℕ) (us : List ℕ) (v : ℕ) → Chain c w us v → (q : ℕ) × Top v (λ r. r ≤ p.rank q)
  chain_ends w [] v h = (h.0, owner_top v h.0 h.2)
  chain_ends w (u ∷ us) v h = chain_ends u us v h.1

  pub no_circle : (w : ℕ) (us : List ℕ) → Chain c w us w → ⊥
  unfolding Top
  no_circle w us h =
      let t = chain_ends w us w h in
      let o = t.1 in
      let r = chain_falls w us w o.0 o.1 o.2 h in
      let same : o.0 ∷ o.1 ≡ r.0 ∷ r.1 = sym o.2 ∙ r.2 in
      let is_it : o.0 ≡ r.0 = cc in
      let less = r.3 in
      let k : p.rank o.0.0 ≡ p.rank r.0.0 = ap (λ (x : Entry). p.rank x.0) is_it in
      omega arith
