-- In a good core, whether all needs are seen shows in the next need.
use Rattle.std.proofs.Common.{◌≡◌, ℕ, true, false, List, [], ◌∷◌, ◌++◌, inl, inr, refl, sym, subst, ap, ◌∙◌, ◌&&◌}
use Rattle.std.specs.Prelude.{Option, Some, None}
use Rattle.sched_core.specs.Plan.{Plan, IsLawful, has, next_need}
use Rattle.sched_core.specs.State.{State, Entry, is, AllSeen, all_seen}
use Rattle.sched_core.specs.Good.{Good, GivenSeen}
use Rattle.sched_core.specs.Turn.{ripe}
use Rattle.sched_core.proofs.Lists.{bool_tells, next_in, next_out, next_none, next_last, has_snoc, stolen_in}
use Rattle.sched_core.proofs.Turns.{and_tells, is_tells, is_here, all_seen_from, all_seen_tells}

module _ (p : Plan) (c : State) (l : IsLawful p) (g : Good p c) (v : ℕ) (e : Entry) (es : List Entry) (top : c.stack v ≡ e ∷ es) where
  none_left : next_need (p.needs e.0) e.1 ≡ None → AllSeen p c v e
  none_left n =
      let given = next_none (p.needs e.0) e.1 n in
      let seen = subst (λ (xs : List Entry). GivenSeen (c.seen v) xs) top (g.given v) in
      ((λ m h _. given m h), (λ s t. seen.0 s (given s (stolen_in p l e.0 s t))))

  last_left : (q : ℕ) → next_need (p.needs e.0) e.1 ≡ Some q → p.steals e.0 ≡ Some q → c.seen v q ≡ true → AllSeen p c v e
  last_left q n t s =
      let k = l.stolen_last q e.0 t in
      let n' : next_need (k.0 ++ q ∷ []) e.1 ≡ Some q = subst (λ (xs : List ℕ). next_need xs e.1 ≡ Some q) k.1 n in (
        (λ m h ne. elim (has_snoc k.0 q m (subst (λ (xs : List ℕ). has m xs ≡ true) k.1 h)) [ inl i ↦ next_last k.0 q e.1 k.2 n' m i | inr i ↦ absurd (ne (t ∙ ap Some (sym i))) ]),
        (λ m h. let same : q ≡ m = cc in subst (λ (x : ℕ). c.seen v x ≡ true) same s),
      )

  not_all : (q : ℕ) → next_need (p.needs e.0) e.1 ≡ Some q → ((is (p.steals e.0) q && c.seen v q) ≡ false) → all_seen p c v e ≡ false
  not_all q n h = elim (bool_tells (all_seen p c v e)) [
    | inl t ↦ absurd (
        let a = all_seen_tells p c v e t in
        elim (bool_tells (is (p.steals e.0) q)) [
          | inl i ↦ (let s = a.1 q (is_tells (p.steals e.0) q i) in let both : (is (p.steals e.0) q && c.seen v q) ≡ true = ap (λ b. b && c.seen v q) i ∙ s in (cc))
          | inr i ↦ (let o = next_out (p.needs e.0) e.1 q n in let k = a.0 q (next_in (p.needs e.0) e.1 q n) (λ t'. let j = is_here (p.steals e.0) q t' in (cc)) in (cc))
        ])
    | inr f ↦ f
  ]

  by : (o : Option ℕ) → next_need (p.needs e.0) e.1 ≡ o → all_seen p c v e ≡ ripe o (p.steals e.0) (c.seen v)
  by None n = all_seen_from p c v e (none_left n)
  by (Some q) n = elim (bool_tells (is (p.steals e.0) q && c.seen v q)) [
    | inl t ↦ (let a = and_tells (is (p.steals e.0) q) (c.seen v q) t in all_seen_from p c v e (last_left q n (is_tells (p.steals e.0) q a.0) a.1) ∙ sym t)
    | inr f ↦ not_all q n f ∙ sym f
  ]

  pub ripe_is : all_seen p c v e ≡ ripe (next_need (p.needs e.0) e.1) (p.steals e.0) (c.seen v)
  ripe_is = by (next_need (p.needs e.0) e.1) refl
