-- What a turn does to the work that is left, to the roots that are done, and to what failed.
use Rattle.std.proofs.Common.{◌≡◌, ◌≢◌, ℕ, ◌+◌, ◌<◌, Bool, true, false, List, [], ◌∷◌, ◌⊎◌, inl, inr, refl, sym, subst, ap, ◌∙◌, arith}
use Rattle.std.specs.Prelude.{Option, Some, None, nat_lt, if◌then◌else◌}
use Rattle.sched_core.specs.declared.Status.{Status}
use Rattle.sched_core.specs.declared.Status.TheVariants.{Unclaimed, Claimed, Done, Failed, Stolen}
use Rattle.sched_core.specs.declared.Event.{Event}
use Rattle.sched_core.specs.declared.Event.TheVariants.{Claim, Look, Borrow, Release, Steal, Publish, Fail, Draw}
use Rattle.sched_core.specs.Plan.{Plan, IsLawful, next_need}
use Rattle.sched_core.specs.State.{State, Entry, Legal, upd, saw, done, settled, untouched, is_stolen, all_seen, after, on_top, published_by, failed_by, borrowed_more, borrowed_less}
use Rattle.sched_core.specs.Good.{Good}
use Rattle.sched_core.specs.Turn.{turn, turn_of, turn_free, turn_empty, turn_top, drawing, ending, moved, Useful}
use Rattle.sched_core.specs.Work.{work_left}
use Rattle.sched_core.specs.Shown.{worker_of}
use Rattle.sched_core.specs.Held.{RootsStay}
use Rattle.sched_core.proofs.Upd.{upd_at}
use Rattle.sched_core.proofs.Lists.{nat_cases}
use Rattle.sched_core.proofs.Turns.{turn_legal}
use Rattle.sched_core.proofs.Falls.{falls}
use Rattle.sched_core.proofs.Progress.{goes_on}
use Rattle.sched_core.proofs.Holding.{more_done, less_done}
use Rattle.sched_core.proofs.Fields.{saw_waits}

-- a turn is an event of that worker and no failure, and a look is at what this worker hasn't seen
abbrev pub IsTurn : State → ℕ → Event → Type 0
IsTurn c w (Claim v q) = v ≡ w
IsTurn c w (Look v q) = (v ≡ w) × (c.seen v q ≡ false)
IsTurn c w (Borrow v s) = v ≡ w
IsTurn c w (Release v s) = v ≡ w
IsTurn c w (Steal v s) = v ≡ w
IsTurn c w (Publish v) = v ≡ w
IsTurn c w (Fail v) = ⊥
IsTurn c w (Draw v) = v ≡ w

pub turn_worker : (c : State) (w : ℕ) (e : Event) → IsTurn c w e → worker_of e ≡ w
turn_worker c w (Claim v q) t = t
turn_worker c w (Look v q) t = t.0
turn_worker c w (Borrow v s) t = t
turn_worker c w (Release v s) t = t
turn_worker c w (Steal v s) t = t
turn_worker c w (Publish v) t = t
turn_worker c w (Fail v) t = absurd t
turn_worker c w (Draw v) t = t

abbrev pub AreTurns : State → ℕ → Option Event → Type 0
AreTurns c w None = Unit {0}
AreTurns c w (Some e) = IsTurn c w e

module _ (p : Plan) (c : State) (w : ℕ) where
  drawing_turn : (b : Bool) → AreTurns c w (if b then Some (Draw w) else None)
  drawing_turn true = refl
  drawing_turn false = tt

  claim_turn : (q : ℕ) (b : Bool) → c.seen w q ≡ false → AreTurns c w (if b then Some (Claim w q) else Some (Look w q))
  claim_turn q true h = refl
  claim_turn q false h = (refl, h)

  ending_turn : (o : Option ℕ) → AreTurns c w (ending c w o)
  ending_turn None = refl
  ending_turn (Some s) = steal_turn (is_stolen (c.status s))
    where
      steal_turn : (b : Bool) → AreTurns c w (if b then Some (Publish w) else Some (Steal w s))
      steal_turn true = refl
      steal_turn false = refl

  empty_turn : (root : Option ℕ) → AreTurns c w (turn_empty p c w root)
  empty_turn None = drawing_turn (nat_lt c.drawn p.roots)
  empty_turn (Some r) = go (c.seen w r) refl
    where
      go : (b : Bool) → c.seen w r ≡ b → AreTurns c w (if b then drawing p c w else (if untouched (c.status r) then Some (Claim w r) else Some (Look w r)))
      go true h = drawing_turn (nat_lt c.drawn p.roots)
      go false h = claim_turn r (untouched (c.status r)) h

  top_turn : (e : Entry) (need : Option ℕ) → AreTurns c w (turn_top p c w e need)
  top_turn e None = go (all_seen p c w e)
    where
      go : (b : Bool) → AreTurns c w (if b then ending c w (p.steals e.0) else None)
      go true = ending_turn (p.steals e.0)
      go false = tt
  top_turn e (Some q) = go (untouched (c.status q)) (all_seen p c w e) (c.seen w q) refl
    where
      go : (a b d : Bool) → c.seen w q ≡ d → AreTurns c w (if a then Some (Claim w q) else (if b then ending c w (p.steals e.0) else (if d then Some (Borrow w q) else Some (Look w q))))
      go true b d h = refl
      go false true d h = ending_turn (p.steals e.0)
      go false false true h = refl
      go false false false h = (refl, h)

  free_turn : (es : List Entry) → AreTurns c w (turn_free p c w es)
  free_turn [] = empty_turn (c.root w)
  free_turn (e ∷ es) = top_turn e (next_need (p.needs e.0) e.1)

  pub is_turn : AreTurns c w (turn p c w)
  is_turn = go (c.borrow w)
    where
      go : (o : Option ℕ) → AreTurns c w (turn_of p c w o)
      go None = free_turn (c.stack w)
      go (Some s) = refl

pub not_fail : (c : State) (w : ℕ) (e : Event) → IsTurn c w e → (v : ℕ) → e ≢ Fail v
not_fail c w (Claim v q) t u k = (cc)
not_fail c w (Look v q) t u k = (cc)
not_fail c w (Borrow v s) t u k = (cc)
not_fail c w (Release v s) t u k = (cc)
not_fail c w (Steal v s) t u k = (cc)
not_fail c w (Publish v) t u k = (cc)
not_fail c w (Fail v) t u k = t
not_fail c w (Draw v) t u k = (cc)

-- whether a turn goes on. If it doesn't, it does no more than to wait
abbrev pub OnlyWaits : State → State → Type 0
OnlyWaits c d = (x : ℕ → Option ℕ) × (d ≡ record c { wait = x })

module _ (p : Plan) (l : IsLawful p) (c : State) (g : Good p c) (clean : (q : ℕ) → c.status q ≢ Failed) (w : ℕ) where
  pub onward : (e : Event) → Legal p c e → IsTurn c w e → (work_left p (after p c e) < work_left p c) ⊎ (OnlyWaits c (after p c e) × (Useful c e → ⊥))
  onward (Claim v q) m t = inl (falls p c l g (Claim v q) m tt (not_fail c w (Claim v q) t))
  onward (Look v q) m t = go (settled (c.status q)) refl
    where
      go : (b : Bool) → settled (c.status q) ≡ b → (work_left p (after p c (Look v q)) < work_left p c) ⊎ (OnlyWaits c (after p c (Look v q)) × (Useful c (Look v q) → ⊥))
      go true h = inl (falls p c l g (Look v q) m (h, t.1) (not_fail c w (Look v q) t))
      go false h = inr ((upd c.wait v (Some q), saw_waits c v q (c.status q) h (clean q)), λ u. let k = u.0 in (cc))
  onward (Borrow v s) m t = inl (falls p c l g (Borrow v s) m tt (not_fail c w (Borrow v s) t))
  onward (Release v s) m t = inl (falls p c l g (Release v s) m tt (not_fail c w (Release v s) t))
  onward (Steal v s) m t = inl (falls p c l g (Steal v s) m tt (not_fail c w (Steal v s) t))
  onward (Publish v) m t = inl (falls p c l g (Publish v) m tt (not_fail c w (Publish v) t))
  onward (Fail v) m t = absurd t
  onward (Draw v) m t = inl (falls p c l g (Draw v) m tt (not_fail c w (Draw v) t))

  set_stays : (q r : ℕ) (st : Status) → (r ≡ q → done (c.status r) ≡ true → done st ≡ true) → done (c.status r) ≡ true → done (upd c.status q st r) ≡ true
  set_stays q r st k d = upd_at c.status q st (λ (s : Status). done s ≡ true) r (λ e. k e d) (λ ne. d)

  saw_stays : (v q r : ℕ) (st : Status) → done (c.status r) ≡ true → done ((saw c v q st).status r) ≡ true
  saw_stays v q r Unclaimed d = d
  saw_stays v q r (Claimed u) d = d
  saw_stays v q r (Done b) d = d
  saw_stays v q r Failed d = d
  saw_stays v q r Stolen d = d

  published_stays : (es : List Entry) (v i : ℕ) → done (c.status (p.root i)) ≡ true → done ((on_top c es (λ d q. published_by d v q)).status (p.root i)) ≡ true
  published_stays [] v i d = d
  published_stays (e ∷ es) v i d = set_stays e.0 (p.root i) (Done 0) (λ k h. refl) d

  -- a root that is done is done after the event too
  pub root_stays : (e : Event) → Legal p c e → IsTurn c w e → (i : ℕ) → i < p.roots → done (c.status (p.root i)) ≡ true → done ((after p c e).status (p.root i)) ≡ true
  root_stays (Claim v q) m t i lt d = set_stays q (p.root i) (Claimed v) (λ k h. let s = sym (ap (λ (x : ℕ). done (c.status x)) k) ∙ h in let f = ap done m.free in absurd (cc)) d
  root_stays (Look v q) m t i lt d = saw_stays v q (p.root i) (c.status q) d
  root_stays (Borrow v s) m t i lt d = set_stays s (p.root i) (borrowed_more (c.status s)) (λ k h. more_done (c.status s) ∙ (sym (ap (λ (x : ℕ). done (c.status x)) k) ∙ h)) d
  root_stays (Release v s) m t i lt d = set_stays s (p.root i) (borrowed_less (c.status s)) (λ k h. less_done (c.status s) ∙ (sym (ap (λ (x : ℕ). done (c.status x)) k) ∙ h)) d
  root_stays (Steal v s) m t i lt d = set_stays s (p.root i) Stolen (λ k h. absurd (l.roots_stay i m.0.0 (m.2.steals ∙ ap Some (sym k)))) d
  root_stays (Publish v) m t i lt d = published_stays (c.stack v) v i d
  root_stays (Fail v) m t i lt d = absurd t
  root_stays (Draw v) m t i lt d = d

-- the state of a round so far: less is left than at its start, or only waits changed and no worker below w had a turn that goes on
abbrev pub SoFar : Plan → State → State → ℕ → Type 0
SoFar p c d w = (work_left p d < work_left p c) ⊎ (OnlyWaits c d × ((v : ℕ) → v < w → (e : Event) → turn p c v ≡ Some e → Useful c e → ⊥))

module _ (p : Plan) (l : IsLawful p) (c d : State) (g : Good p d) (clean : (q : ℕ) → d.status q ≢ Failed) (w : ℕ) (lt : w < d.workers) where
  event_tells : (o : Option Event) → turn p d w ≡ o → (o ≡ None) ⊎ ((e : Event) × (o ≡ Some e) × (turn p d w ≡ Some e) × Legal p d e × IsTurn d w e)
  event_tells None t = inl refl
  event_tells (Some e) t = inr (e, refl, t, turn_legal p d l g w lt e t, subst (AreTurns d w) t (is_turn p d w))

  waits_turn : (x : ℕ → Option ℕ) → d ≡ record c { wait = x } → turn p d w ≡ turn p c w
  waits_turn x k = ap (λ (s : State). turn p s w) k

  waits_left : (x : ℕ → Option ℕ) → d ≡ record c { wait = x } → work_left p d ≡ work_left p c
  waits_left x k = ap (work_left p) k

  waits_useful : (x : ℕ → Option ℕ) → d ≡ record c { wait = x } → (e : Event) → Useful c e → Useful d e
  waits_useful x k e u = subst (λ (s : State). Useful s e) (sym k) (same e u)
    where
      same : (e : Event) → Useful c e → Useful (record c { wait = x }) e
      same (Claim v q) u = tt
      same (Look v q) u = u
      same (Borrow v s) u = tt
      same (Release v s) u = tt
      same (Steal v s) u = tt
      same (Publish v) u = tt
      same (Fail v) u = tt
      same (Draw v) u = tt

  more_below : ((v : ℕ) → v < w → (e : Event) → turn p c v ≡ Some e → Useful c e → ⊥) → ((e : Event) → turn p c w ≡ Some e → Useful c e → ⊥) → (v : ℕ) → v < w + 1 → (e : Event) → turn p c v ≡ Some e → Useful c e → ⊥
  more_below h k v small e t u = elim (nat_cases v w) [
    | inl same ↦ k e (sym (ap (turn p c) same) ∙ t) u
    | inr ne ↦ h v (omega (arith, small, ne)) e t u
  ]

  pub so_far : SoFar p c d w → (o : Option Event) → o ≡ turn p d w → SoFar p c (moved p d o) (w + 1)
  so_far so None t = elim so [
    | inl less ↦ inl less
    | inr same ↦ inr (same.0, more_below same.1 (λ e k u. let x = sym k ∙ (sym (waits_turn same.0.0 same.0.1) ∙ sym t) in absurd (cc)))
  ]
  so_far so (Some e) t =
      let m = turn_legal p d l g w lt e (sym t) in
      let i : IsTurn d w e = subst (AreTurns d w) (sym t) (is_turn p d w) in
      elim (onward p l d g clean w e m i) [
        | inl less ↦ elim so [
          | inl before ↦ inl (omega (arith, less, before))
          | inr same ↦ inl (let k = waits_left same.0.0 same.0.1 in omega (arith, less, k))
        ]
        | inr waits ↦ elim so [
          | inl before ↦ inl (let k = ap (work_left p) waits.0.1 in omega (arith, before, k))
          | inr same ↦ inr (
            (waits.0.0, waits.0.1 ∙ ap (λ (s : State). record s { wait = waits.0.0 }) same.0.1),
            more_below same.1 (λ f k u. waits.1 (subst (λ (x : Event). Useful d x) (one f (sym k ∙ (sym (waits_turn same.0.0 same.0.1) ∙ sym t))) (waits_useful same.0.0 same.0.1 f u))),
          )
        ]
      ]
    where
      one : (f : Event) → Some f ≡ Some e → f ≡ e
      one f k = (cc)

  pub roots_moved : (o : Option Event) → o ≡ turn p d w → RootsStay p c d → RootsStay p c (moved p d o)
  roots_moved None t h = h
  roots_moved (Some e) t h = λ i small k. root_stays p l d g clean w e (turn_legal p d l g w lt e (sym t)) (subst (AreTurns d w) (sym t) (is_turn p d w)) i small (h i small k)

-- a round of all workers leaves less, where a root isn't done
pub round_less : (p : Plan) (l : IsLawful p) (c d : State) → Good p c → ((q : ℕ) → c.status q ≢ Failed) → (i : ℕ) → i < p.roots → 0 < c.workers → done (c.status (p.root i)) ≡ false → SoFar p c d c.workers → work_left p d < work_left p c
round_less p l c d g clean i lt some_worker open_root so = elim so [
  | inl less ↦ less
  | inr same ↦ let f = goes_on p c l g clean i lt some_worker open_root in absurd (same.1 f.0 f.1 f.2 f.3 f.4)
]

saw_workers : (c : State) (v q : ℕ) (st : Status) → (saw c v q st).workers ≡ c.workers
saw_workers c v q Unclaimed = refl
saw_workers c v q (Claimed u) = refl
saw_workers c v q (Done b) = refl
saw_workers c v q Failed = refl
saw_workers c v q Stolen = refl

top_workers : (c : State) (es : List Entry) (f : State → ℕ → State) → ((q : ℕ) → (f c q).workers ≡ c.workers) → (on_top c es f).workers ≡ c.workers
top_workers c [] f h = refl
top_workers c (e ∷ es) f h = h e.0

after_workers : (p : Plan) (c : State) (e : Event) → (after p c e).workers ≡ c.workers
after_workers p c (Claim v q) = refl
after_workers p c (Look v q) = saw_workers c v q (c.status q)
after_workers p c (Borrow v s) = refl
after_workers p c (Release v s) = refl
after_workers p c (Steal v s) = refl
after_workers p c (Publish v) = top_workers c (c.stack v) (λ d q. published_by d v q) (λ q. refl)
after_workers p c (Fail v) = top_workers c (c.stack v) (λ d q. failed_by d v q) (λ q. refl)
after_workers p c (Draw v) = refl

pub moved_workers : (p : Plan) (c : State) (o : Option Event) → (moved p c o).workers ≡ c.workers
moved_workers p c None = refl
moved_workers p c (Some e) = after_workers p c e
