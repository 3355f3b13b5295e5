-- A claim keeps what is true of the core.
use Rattle.std.proofs.Common.{◌≡◌, ℕ, ◌<◌, true, false, List, [], ◌∷◌, ◌⊎◌, inl, inr, refl, sym, subst, ◌∙◌, arith}
use Rattle.std.specs.Prelude.{Some, None}
use Rattle.sched_core.specs.declared.Status.{Status}
use Rattle.sched_core.specs.declared.Status.TheVariants.{Claimed, Done, Failed, Stolen}
use Rattle.sched_core.specs.Plan.{Plan, has, Reads}
use Rattle.sched_core.specs.State.{State, Entry, upd, queries_of, next_of_top, settled, done, untouched, borrowers, MayClaim, claimed_by}
use Rattle.sched_core.specs.Good.{Good, IsOnce, Chained, GivenSeen, Borrows, StackedClaimed, ClaimedStacked, SeenSettled, GoneFailed, CountsBorrowers, ReadersSettled, StolenFor, StealsTaken, DrawnHeld}
use Rattle.sched_core.proofs.Upd.{upd_other, upd_tells, upd_at}
use Rattle.sched_core.proofs.Lists.{bool_tells, next_stands}
use Rattle.sched_core.proofs.Parts.{borrows_at, waits_else, other_set, nothing_at}
use Rattle.std.proofs.lemmas.Bool.Decides.{nat_tests}

module _ (p : Plan) (c : State) (w q : ℕ) (g : Good p c) (m : MayClaim p c w q) where
  abbrev new : List Entry
  new = (q, []) ∷ c.stack w

  abbrev stack : ℕ → List Entry
  stack = upd c.stack w new

  abbrev status : ℕ → Status
  status = upd c.status q (Claimed w)

  standing : StackedClaimed stack status
  standing v r h = grind (arith, nat_tests, upd_tells c.stack w new v, upd_tells c.status q (Claimed w) r, g.standing v r, g.standing w r)

  placed : ClaimedStacked stack status
  placed v r h = grind (arith, nat_tests, upd_tells c.stack w new v, upd_tells c.status q (Claimed w) r, g.placed v r, g.placed w r)

  absent : has q (queries_of (c.stack w)) ≡ false
  absent = grind (arith, bool_tells (has q (queries_of (c.stack w))), g.standing w q, m.free)

  once : (v : ℕ) → IsOnce (queries_of (stack v))
  once v = upd_at c.stack w new (λ es. IsOnce (queries_of es)) v (λ _. (absent, g.once w)) (λ _. g.once v)

  chained : (v : ℕ) → Chained p (c.root v) (stack v)
  chained v = upd_at c.stack w new (λ es. Chained p (c.root v) es) v
      (λ e. subst (λ (x : ℕ). Chained p (c.root x) new) (sym e) (next_stands p (c.stack w) (c.root w) q m.next, g.chained w)) (λ _. g.chained v)

  seen : SeenSettled c.seen status
  seen v r h = grind (arith, upd_tells c.status q (Claimed w) r, g.seen v r h, m.free)

  gone : GoneFailed c.gone status
  gone v r h = grind (arith, upd_tells c.status q (Claimed w) r, g.gone v r h, m.free)

  given : (v : ℕ) → GivenSeen (c.seen v) (stack v)
  given v = upd_at c.stack w new (λ es. GivenSeen (c.seen v) es) v
      (λ e. subst (λ (x : ℕ). GivenSeen (c.seen x) new) (sym e) ((λ n h. absurd (cc)), g.given w)) (λ _. g.given v)

  counted : CountsBorrowers c.borrow c.workers status
  counted s b h = grind (arith, upd_tells c.status q (Claimed w) s, g.counted s b)

  -- the claimant borrows nothing, since what it borrowed would be done and its next need
  free : (s : ℕ) → Borrows p c w s → ⊥
  free s o =
      let n : next_of_top p (o.top ∷ o.rest) (c.root w) ≡ Some q = subst (λ (es : List Entry). next_of_top p es (c.root w) ≡ Some q) o.stack m.next in
      let same : Some s ≡ Some q = sym o.next ∙ n in let d = o.done in let f = m.free in cc

  borrowed : (v s : ℕ) → c.borrow v ≡ Some s → Borrows p (claimed_by c w q) v s
  borrowed v s h = let o = g.borrowed v s h in
      borrows_at p c (claimed_by c w q) v s o.count o refl
      (let d = o.done in grind (arith, upd_tells c.status q (Claimed w) s, m.free))
      (upd_other c.stack w new v (λ e. free s (subst (λ (x : ℕ). Borrows p c x s) e o)))
      o.seen

  readers : ReadersSettled p status
  readers s r h k = grind (arith, upd_tells c.status q (Claimed w) s, upd_tells c.status q (Claimed w) r, λ (e : c.status s ≡ Stolen). g.readers s r e k, m.free)

  stolen_for : StolenFor p status
  stolen_for s h =
      let old : c.status s ≡ Stolen = grind (arith, upd_tells c.status q (Claimed w) s) in
      let t = g.stolen_for s old in
      (t.0, t.1, (let k = t.2 in grind (arith, upd_tells c.status q (Claimed w) t.0)))

  taken : StealsTaken p status
  taken r s h k = grind (arith, upd_tells c.status q (Claimed w) s, upd_tells c.status q (Claimed w) r, λ (e : settled (c.status r) ≡ true). g.taken r s e k, m.free)

  drawn : DrawnHeld p c.drawn c.workers c.root status
  drawn i lt = elim (g.drawn i lt) [
    | inl h ↦ inl (grind (arith, upd_tells c.status q (Claimed w) (p.root i), m.free))
    | inr (inl h) ↦ inr (inl (grind (arith, upd_tells c.status q (Claimed w) (p.root i), m.free)))
    | inr (inr h) ↦ inr (inr h)
  ]

  pub keeps : Good p (claimed_by c w q)
  keeps = record {
    standing = standing;
    placed = placed;
    once = once;
    chained = chained;
    waiting = waits_else p c w new g.waiting;
    seen = seen;
    gone = gone;
    given = given;
    counted = counted;
    borrowed = borrowed;
    readers = readers;
    stolen_for = stolen_for;
    taken = taken;
    drawn = drawn;
    limit = g.limit;
    rooted = g.rooted;
    seated = λ v le. nothing_at c (claimed_by c w q) v (g.seated v le) (other_set c.stack w new c.workers m.worker v le) refl (other_set c.wait w None c.workers m.worker v le) refl;
  }
