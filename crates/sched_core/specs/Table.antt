-- The first reason why an event is not legal.
use Rattle.std.specs.Prelude.{ℕ, zero, suc, Bool, true, false, ◌==◌, ◌||◌, ◌&&◌, nat_lt, List, [], ◌∷◌, Option, Some, None, if◌then◌else◌}
use Rattle.sched_core.specs.declared.Status.{Status}
use Rattle.sched_core.specs.declared.Status.TheVariants.{Unclaimed, Claimed, Done, Failed, Stolen}
use Rattle.sched_core.specs.declared.Event.{Event}
use Rattle.sched_core.specs.declared.Event.TheVariants.{Claim, Look, Borrow, Release, Steal, Publish, Fail, Draw}
use Rattle.sched_core.specs.declared.Why.{Why}
use Rattle.sched_core.specs.declared.Why.TheVariants as w
use Rattle.sched_core.specs.Plan.{Plan, next_need}
use Rattle.sched_core.specs.State.{State, Entry, is, next, untouched, done, is_stolen, all_seen}

-- the first that isn't none
abbrev pub or_else : Option Why → Option Why → Option Why
or_else None b = b
or_else (Some a) b = Some a

abbrev pub unless : Bool → Why → Option Why
unless true y = None
unless false y = Some y

-- some root below n is q
abbrev pub is_root : (ℕ → ℕ) → ℕ → ℕ → Bool
is_root root zero q = false
is_root root (suc n) q = (root n == q) || is_root root n q

abbrev pub is_empty : List Entry → Bool
is_empty [] = true
is_empty (e ∷ es) = false

abbrev pub claimed_here : ℕ → Status → Bool
claimed_here w Unclaimed = false
claimed_here w (Claimed v) = v == w
claimed_here w (Done b) = false
claimed_here w Failed = false
claimed_here w Stolen = false

abbrev pub is_free : Status → Bool
is_free Unclaimed = false
is_free (Claimed w) = false
is_free (Done b) = b == 0
is_free Failed = false
is_free Stolen = false

-- the number in range, or why not
abbrev pub within : ℕ → ℕ → Option Why
within n limit = unless (nat_lt n limit) (w.NotTop n)

abbrev pub need_or : Option ℕ → ℕ
need_or None = 0
need_or (Some n) = n

abbrev pub holds_none : Option ℕ → Option Why
holds_none None = None
holds_none (Some s) = Some (w.Holds s)

abbrev pub why_claim : Plan → State → ℕ → ℕ → Option Why
why_claim p c v q = or_else (unless (is (next p c v) q) (w.NotTop q)) (unless (untouched (c.status q)) (w.Status (c.status q)))

abbrev pub why_look : Plan → State → ℕ → ℕ → Option Why
why_look p c v q =
    or_else (unless (is (next p c v) q || (is_empty (c.stack v) && is_root p.root p.roots q)) (w.NotTop q))
    (unless (if claimed_here v (c.status q) then false else true) (w.Status (c.status q)))

abbrev pub why_borrow : Plan → State → ℕ → ℕ → List Entry → Option Why
why_borrow p c v s [] = Some (w.NotTop s)
why_borrow p c v s (e ∷ es) =
    or_else (unless (is (next_need (p.needs e.0) e.1) s && (if is (p.steals e.0) s then false else true)) (w.NotTop s))
    (or_else (unless (c.seen v s) (w.Unseen s)) (or_else (holds_none (c.borrow v)) (unless (done (c.status s)) (w.Status (c.status s)))))

abbrev pub why_steal : Plan → State → ℕ → ℕ → List Entry → Option Why
why_steal p c v s [] = Some (w.NotTop s)
why_steal p c v s (e ∷ es) =
    or_else (unless (is (p.steals e.0) s) (w.NotTop s))
    (or_else (unless (all_seen p c v e) (w.Unseen (need_or (next_need (p.needs e.0) e.1)))) (unless (is_free (c.status s)) (w.Status (c.status s))))

abbrev pub taken : State → Option ℕ → Option Why
taken c None = None
taken c (Some s) = unless (is_stolen (c.status s)) (w.Status (c.status s))

abbrev pub why_publish : Plan → State → ℕ → List Entry → Option Why
why_publish p c v [] = Some (w.NotTop v)
why_publish p c v (e ∷ es) =
    or_else (unless (all_seen p c v e) (w.Unseen (need_or (next_need (p.needs e.0) e.1))))
    (or_else (holds_none (c.borrow v)) (taken c (p.steals e.0)))

abbrev pub why_fail : State → ℕ → List Entry → Option Why
why_fail c v [] = Some (w.NotTop v)
why_fail c v (e ∷ es) = holds_none (c.borrow v)

abbrev pub why_draw : Plan → State → ℕ → List Entry → Option ℕ → Option Why
why_draw p c v (e ∷ es) root = Some (w.Busy e.0)
why_draw p c v [] None = unless (nat_lt c.drawn p.roots) (w.NoRoot c.drawn)
why_draw p c v [] (Some r) = or_else (unless (c.seen v r || c.gone v r) (w.Busy r)) (unless (nat_lt c.drawn p.roots) (w.NoRoot c.drawn))

-- the first reason in the table's order, and none where the event is legal
abbrev pub why : Plan → State → Event → Option Why
why p c (Claim v q) = or_else (within v c.workers) (or_else (within q p.queries) (why_claim p c v q))
why p c (Look v q) = or_else (within v c.workers) (or_else (within q p.queries) (why_look p c v q))
why p c (Borrow v s) = or_else (within v c.workers) (or_else (within s p.queries) (why_borrow p c v s (c.stack v)))
why p c (Release v s) = or_else (within v c.workers) (or_else (within s p.queries) (unless (is (c.borrow v) s) (w.Holds s)))
why p c (Steal v s) = or_else (within v c.workers) (or_else (within s p.queries) (why_steal p c v s (c.stack v)))
why p c (Publish v) = or_else (within v c.workers) (why_publish p c v (c.stack v))
why p c (Fail v) = or_else (within v c.workers) (why_fail c v (c.stack v))
why p c (Draw v) = or_else (within v c.workers) (why_draw p c v (c.stack v) (c.root v))
