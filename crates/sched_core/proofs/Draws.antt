-- A draw keeps what is true of the core.
use Rattle.std.proofs.Common.{◌≡◌, ◌≢◌, ℕ, ◌+◌, ◌<◌, true, List, [], ◌⊎◌, inl, inr, refl, sym, subst, ap, ◌∙◌, arith}
use Rattle.std.specs.Prelude.{Option, Some, None}
use Rattle.sched_core.specs.declared.Status.TheVariants.{Failed}
use Rattle.sched_core.specs.Plan.{Plan, IsLawful}
use Rattle.sched_core.specs.State.{State, Entry, upd, done, WaitFits, MayDraw, drawn_by}
use Rattle.sched_core.specs.Good.{Good, Chained}
use Rattle.sched_core.proofs.Upd.{upd_same, upd_other, upd_tells, upd_at}
use Rattle.sched_core.proofs.Lists.{nat_cases}
use Rattle.sched_core.proofs.Parts.{borrows_at, root_done, other_set, nothing_at}

module _ (p : Plan) (c : State) (w : ℕ) (l : IsLawful p) (g : Good p c) (m : MayDraw p c w) where
  abbrev drawn_root : Option ℕ
  drawn_root = Some (p.root c.drawn)

  abbrev root : ℕ → Option ℕ
  root = upd c.root w drawn_root

  chained : (v : ℕ) → Chained p (root v) (c.stack v)
  chained v = upd_at c.root w drawn_root (λ r. Chained p r (c.stack v)) v
      (λ e. subst (λ (es : List Entry). Chained p drawn_root es) (sym (subst (λ (x : ℕ). c.stack x ≡ []) (sym e) m.empty)) tt) (λ _. g.chained v)

  waiting : (v r : ℕ) → upd c.wait w None v ≡ Some r → WaitFits p (c.stack v) (root v) r
  waiting v r h = elim (upd_tells c.wait w None v) [ inl e ↦ absurd (let k = e.1 in grind (arith)) | inr e ↦ there e ]
    where
      there : (v ≢ w) × (upd c.wait w None v ≡ c.wait v) → WaitFits p (c.stack v) (root v) r
      there e = subst (λ (o : Option ℕ). WaitFits p (c.stack v) o r) (sym (upd_other c.root w drawn_root v e.0)) (g.waiting v r (sym e.1 ∙ h))

  rooted : (v r : ℕ) → root v ≡ Some r → (i : ℕ) × (i < c.drawn + 1) × (p.root i ≡ r)
  rooted v r h = elim (upd_tells c.root w drawn_root v) [
    | inl e ↦ (c.drawn, omega arith, (let same : Some (p.root c.drawn) ≡ Some r = sym e.1 ∙ h in cc))
    | inr e ↦ let old = g.rooted v r (sym e.1 ∙ h) in let lt = old.1 in (old.0, omega arith, old.2)
  ]

  Drawn : ℕ → Type 0
  Drawn i = (done (c.status (p.root i)) ≡ true) ⊎ (c.status (p.root i) ≡ Failed) ⊎ ((v : ℕ) × (v < c.workers) × (root v ≡ Some (p.root i)))

  had : (i v : ℕ) → v < c.workers → c.root v ≡ Some (p.root i) → Drawn i
  unfolding Drawn
  had i v lt h = elim (upd_tells c.root w drawn_root v) [
    | inl e ↦ elim (m.idle (p.root i) (subst (λ (x : ℕ). c.root x ≡ Some (p.root i)) e.0 h)) [ inl s ↦ inl (root_done p c l g i w s) | inr s ↦ inr (inl (g.gone w (p.root i) s)) ]
    | inr e ↦ inr (inr (v, lt, e.1 ∙ h))
  ]

  drawn : (i : ℕ) → i < c.drawn + 1 → Drawn i
  unfolding Drawn
  drawn i lt = elim (nat_cases i c.drawn) [
    | inl e ↦ inr (inr (w, m.worker, upd_same c.root w drawn_root ∙ ap (λ (k : ℕ). Some (p.root k)) (sym e)))
    | inr e ↦ elim (g.drawn i (omega arith)) [ inl h ↦ inl h | inr (inl h) ↦ inr (inl h) | inr (inr h) ↦ had i h.0 h.1 h.2 ]
  ]

  pub keeps : Good p (drawn_by p c w)
  unfolding Drawn
  keeps = record {
    standing = g.standing;
    placed = g.placed;
    once = g.once;
    chained = chained;
    waiting = waiting;
    seen = g.seen;
    gone = g.gone;
    given = g.given;
    counted = g.counted;
    borrowed = λ v s h. let o = g.borrowed v s h in borrows_at p c (drawn_by p c w) v s o.count o refl o.done refl o.seen;
    readers = g.readers;
    stolen_for = g.stolen_for;
    taken = g.taken;
    drawn = drawn;
    limit = let left = m.left in omega arith;
    rooted = rooted;
    seated = λ v le. nothing_at c (drawn_by p c w) v (g.seated v le) refl refl (other_set c.wait w None c.workers m.worker v le) (other_set c.root w drawn_root c.workers m.worker v le);
  }
