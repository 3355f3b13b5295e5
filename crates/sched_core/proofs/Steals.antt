-- A steal keeps what is true of the core.
use Rattle.std.proofs.Common.{◌≡◌, ◌≢◌, ℕ, ◌<◌, true, false, List, ◌∷◌, ◌⊎◌, inl, inr, refl, sym, subst, ap, ◌∙◌, arith}
use Rattle.std.specs.Prelude.{Some, None}
use Rattle.sched_core.specs.declared.Status.{Status}
use Rattle.sched_core.specs.declared.Status.TheVariants.{Claimed, Done, Failed, Stolen}
use Rattle.sched_core.specs.Plan.{Plan, IsLawful, has, Reads}
use Rattle.sched_core.specs.State.{State, Entry, upd, queries_of, settled, done, untouched, borrowers, AllSeen, MaySteal, stolen_by}
use Rattle.sched_core.specs.Good.{Good, GivenSeen, Borrows, StackedClaimed, ClaimedStacked, GoneFailed, CountsBorrowers, ReadersSettled, StolenFor, StealsTaken, DrawnHeld}
use Rattle.sched_core.proofs.Upd.{upd_other, upd_tells}
use Rattle.sched_core.proofs.Lists.{borrowers_some, has_first}
use Rattle.sched_core.proofs.Parts.{SettledStay, borrows_at, waits_same, other_set, nothing_at}

-- a query isn't its own need
pub not_own : (p : Plan) (l : IsLawful p) (q : ℕ) → has q (p.needs q) ≡ true → ⊥
not_own p l q h = let k = l.no_cycle q q h in omega arith

module _ (p : Plan) (c : State) (l : IsLawful p) (g : Good p c) where
  -- where all needs of the top are seen, each query that reads what it steals is done or stolen
  pub readers_settled : (w s r : ℕ) (e : Entry) (es : List Entry) → c.stack w ≡ e ∷ es → p.steals e.0 ≡ Some s → AllSeen p c w e → Reads p r s → settled (c.status r) ≡ true
  readers_settled w s r e es top t all k =
      let need = l.thief_waits s e.0 r t k in
      let kept : p.steals e.0 ≢ Some r = λ h. let same : Some s ≡ Some r = sym t ∙ h in let is : s ≡ r = cc in not_own p l r (subst (λ (x : ℕ). has x (p.needs r) ≡ true) is k.0) in
      let given = subst (λ (xs : List Entry). GivenSeen (c.seen w) xs) top (g.given w) in
      g.seen w r (given.0 r (all.0 r need kept))

  pub top_claimed : (w : ℕ) (e : Entry) (es : List Entry) → c.stack w ≡ e ∷ es → c.status e.0 ≡ Claimed w
  top_claimed w e es top = g.standing w e.0 (subst (λ (xs : List Entry). has e.0 (queries_of xs) ≡ true) (sym top) (has_first e.0 (queries_of es)))

module _ (p : Plan) (c : State) (w s : ℕ) (e : Entry) (es : List Entry) (l : IsLawful p) (g : Good p c) (m : MaySteal p c w s e es) where
  abbrev status : ℕ → Status
  status = upd c.status s Stolen

  standing : StackedClaimed c.stack status
  standing v r h = grind (arith, upd_tells c.status s Stolen r, g.standing v r h, m.done)

  placed : ClaimedStacked c.stack status
  placed v r h = grind (arith, upd_tells c.status s Stolen r, g.placed v r)

  settled_more : SettledStay c.status status
  settled_more r h = grind (arith, upd_tells c.status s Stolen r)

  gone : GoneFailed c.gone status
  gone v r h = grind (arith, upd_tells c.status s Stolen r, g.gone v r h, m.done)

  counted : CountsBorrowers c.borrow c.workers status
  counted t a h = grind (arith, upd_tells c.status s Stolen t, g.counted t a)

  -- nobody borrows what is stolen
  free : (v : ℕ) → Borrows p c v s → c.borrow v ≡ Some s → ⊥
  free v o h = let n = g.counted s 0 m.done in let k = borrowers_some c.borrow s v c.workers o.worker h in omega arith

  borrowed : (v t : ℕ) → c.borrow v ≡ Some t → Borrows p (stolen_by c w s) v t
  borrowed v t h = let o = g.borrowed v t h in
      let ne : t ≢ s = λ k. free v (subst (λ (x : ℕ). Borrows p c v x) k o) (subst (λ (x : ℕ). c.borrow v ≡ Some x) k h) in
      borrows_at p c (stolen_by c w s) v t o.count o refl (upd_other c.status s Stolen t ne ∙ o.done) refl o.seen

  readers : ReadersSettled p status
  readers t r h k = elim (upd_tells c.status s Stolen t) [
    | inl i ↦ settled_more r (readers_settled p c l g w s r e es m.top m.steals m.all_seen (subst (λ (x : ℕ). Reads p r x) i.0 k))
    | inr i ↦ settled_more r (g.readers t r (sym i.1 ∙ h) k)
  ]

  stolen_for : StolenFor p status
  stolen_for t h = elim (upd_tells c.status s Stolen t) [
    | inl i ↦ (e.0, subst (λ (x : ℕ). p.steals e.0 ≡ Some x) (sym i.0) m.steals, (let k = top_claimed p c l g w e es m.top in grind (arith, upd_tells c.status s Stolen e.0)))
    | inr i ↦ let o = g.stolen_for t (sym i.1 ∙ h) in (o.0, o.1, (let k = o.2 in grind (arith, upd_tells c.status s Stolen o.0)))
  ]

  taken : StealsTaken p status
  taken r t h k =
      let old : settled (c.status r) ≡ true = grind (arith, upd_tells c.status s Stolen r, m.done) in
      let o = g.taken r t old k in grind (arith, upd_tells c.status s Stolen t)

  drawn : DrawnHeld p c.drawn c.workers c.root status
  drawn i lt =
      let ne : p.root i ≢ s = λ k. l.roots_stay i e.0 (subst (λ (x : ℕ). p.steals e.0 ≡ Some x) (sym k) m.steals) in
      let same = upd_other c.status s Stolen (p.root i) ne in
      elim (g.drawn i lt) [ inl h ↦ inl (ap done same ∙ h) | inr (inl h) ↦ inr (inl (same ∙ h)) | inr (inr h) ↦ inr (inr h) ]

  pub keeps : Good p (stolen_by c w s)
  keeps = record {
    standing = standing;
    placed = placed;
    once = g.once;
    chained = g.chained;
    waiting = waits_same p c w g.waiting;
    seen = λ v r h. settled_more r (g.seen v r h);
    gone = gone;
    given = g.given;
    counted = counted;
    borrowed = borrowed;
    readers = readers;
    stolen_for = stolen_for;
    taken = taken;
    drawn = drawn;
    limit = g.limit;
    rooted = g.rooted;
    seated = λ v le. nothing_at c (stolen_by c w s) v (g.seated v le) refl refl (other_set c.wait w None c.workers m.worker v le) refl;
  }
