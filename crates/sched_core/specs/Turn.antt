-- The turn of a worker: which event it does when it is its turn.
use Rattle.std.specs.Prelude.{◌≡◌, ℕ, Bool, true, false, ◌&&◌, nat_lt, List, [], ◌∷◌, Option, Some, None, if◌then◌else◌}
use Rattle.sched_core.specs.declared.Event.{Event}
use Rattle.sched_core.specs.declared.Event.TheVariants.{Claim, Look, Borrow, Release, Steal, Publish, Fail, Draw}
use Rattle.sched_core.specs.Plan.{Plan, next_need}
use Rattle.sched_core.specs.State.{State, Entry, is, settled, untouched, is_stolen, all_seen, after}

abbrev pub drawing : Plan → State → ℕ → Option Event
drawing p c w = if nat_lt c.drawn p.roots then Some (Draw w) else None

abbrev pub turn_empty : Plan → State → ℕ → Option ℕ → Option Event
turn_empty p c w None = drawing p c w
turn_empty p c w (Some r) = if c.seen w r then drawing p c w else (if untouched (c.status r) then Some (Claim w r) else Some (Look w r))

abbrev pub ending : State → ℕ → Option ℕ → Option Event
ending c w None = Some (Publish w)
ending c w (Some s) = if is_stolen (c.status s) then Some (Publish w) else Some (Steal w s)

abbrev pub turn_top : Plan → State → ℕ → Entry → Option ℕ → Option Event
turn_top p c w e None = if all_seen p c w e then ending c w (p.steals e.0) else None
turn_top p c w e (Some q) =
    if untouched (c.status q) then Some (Claim w q)
    else (if all_seen p c w e then ending c w (p.steals e.0) else (if c.seen w q then Some (Borrow w q) else Some (Look w q)))

abbrev pub turn_free : Plan → State → ℕ → List Entry → Option Event
turn_free p c w [] = turn_empty p c w (c.root w)
turn_free p c w (e ∷ es) = turn_top p c w e (next_need (p.needs e.0) e.1)

abbrev pub turn_of : Plan → State → ℕ → Option ℕ → Option Event
turn_of p c w None = turn_free p c w (c.stack w)
turn_of p c w (Some s) = Some (Release w s)

-- the event of a worker's turn. With none, the turn passes
abbrev pub turn : Plan → State → ℕ → Option Event
turn p c w = turn_of p c w (c.borrow w)

-- not a look, or a look at what is done or stolen and this worker hasn't seen
abbrev pub Useful : State → Event → Type 0
Useful c (Claim w q) = Unit {0}
Useful c (Look w q) = (settled (c.status q) ≡ true) × (c.seen w q ≡ false)
Useful c (Borrow w s) = Unit {0}
Useful c (Release w s) = Unit {0}
Useful c (Steal w s) = Unit {0}
Useful c (Publish w) = Unit {0}
Useful c (Fail w) = Unit {0}
Useful c (Draw w) = Unit {0}

-- the test for all needs seen, by the next need: there is none, or it is what the top steals, and was seen
abbrev pub ripe : Option ℕ → Option ℕ → (ℕ → Bool) → Bool
ripe None steals seen = true
ripe (Some n) steals seen = is steals n && seen n

-- the state after a turn
abbrev pub moved : Plan → State → Option Event → State
moved p c None = c
moved p c (Some e) = after p c e

-- a claim of what is unclaimed, else a look
abbrev pub claim_or_look : State → ℕ → ℕ → Event
claim_or_look c w q = if untouched (c.status q) then Claim w q else Look w q

-- the turn of a top whose next need is q
abbrev pub turn_need : State → ℕ → ℕ → Option ℕ → Event → Event
turn_need c w q steals end =
    if untouched (c.status q) then Claim w q
    else (if is steals q && c.seen w q then end else (if c.seen w q then Borrow w q else Look w q))

abbrev pub ended : State → ℕ → Option ℕ → Event
ended c w None = Publish w
ended c w (Some s) = if is_stolen (c.status s) then Publish w else Steal w s
