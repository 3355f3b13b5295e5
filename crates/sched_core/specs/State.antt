-- The core's state, its events, and what each event does.
use Rattle.std.specs.Prelude.{◌≡◌, ◌≢◌, ℕ, zero, suc, ◌+◌, ◌-◌, ◌<◌, Bool, true, false, ◌==◌, ◌||◌, ◌&&◌, List, [], ◌∷◌, ◌++◌, Option, Some, None, if◌then◌else◌, ◌⊎◌}
use Rattle.sched_core.specs.declared.Status.{Status}
use Rattle.sched_core.specs.declared.Status.TheVariants.{Unclaimed, Claimed, Done, Failed, Stolen}
use Rattle.sched_core.specs.declared.Event.{Event}
use Rattle.sched_core.specs.declared.Event.TheVariants.{Claim, Look, Borrow, Release, Steal, Publish, Fail, Draw}
use Rattle.sched_core.specs.Plan.{Plan, has, next_need}

-- a claimed query with the needs that it was given
abbrev pub Entry : Type 0
Entry = ℕ × List ℕ

pub record State : Type 0 where
  pub workers : ℕ
  pub status : ℕ → Status
  pub stack : ℕ → List Entry
  pub borrow : ℕ → Option ℕ
  pub seen : ℕ → ℕ → Bool
  pub gone : ℕ → ℕ → Bool
  pub wait : ℕ → Option ℕ
  pub root : ℕ → Option ℕ
  pub drawn : ℕ

-- f with v at k
unfoldable pub upd : {A : Type 0} → (ℕ → A) → ℕ → A → ℕ → A
upd f k v j = if j == k then v else f j

abbrev pub queries_of : List Entry → List ℕ
queries_of [] = []
queries_of (e ∷ es) = e.0 ∷ queries_of es

-- what the top needs next
abbrev pub next_of_top : Plan → List Entry → Option ℕ → Option ℕ
next_of_top p [] root = root
next_of_top p (e ∷ es) root = next_need (p.needs e.0) e.1

-- the next need of a worker: of its top, or its drawn root where the stack is empty
abbrev pub next : Plan → State → ℕ → Option ℕ
next p c w = next_of_top p (c.stack w) (c.root w)

-- done or stolen
abbrev pub settled : Status → Bool
settled Unclaimed = false
settled (Claimed w) = false
settled (Done b) = true
settled Failed = false
settled Stolen = true

abbrev pub done : Status → Bool
done Unclaimed = false
done (Claimed w) = false
done (Done b) = true
done Failed = false
done Stolen = false

abbrev pub untouched : Status → Bool
untouched Unclaimed = true
untouched (Claimed w) = false
untouched (Done b) = false
untouched Failed = false
untouched Stolen = false

abbrev pub is_stolen : Status → Bool
is_stolen Unclaimed = false
is_stolen (Claimed w) = false
is_stolen (Done b) = false
is_stolen Failed = false
is_stolen Stolen = true

abbrev pub is : Option ℕ → ℕ → Bool
is None s = false
is (Some t) s = t == s

-- how many of the first n workers borrow s
abbrev pub borrowers : (ℕ → Option ℕ) → ℕ → ℕ → ℕ
borrowers f zero s = 0
borrowers f (suc n) s = (if is (f n) s then 1 else 0) + borrowers f n s

abbrev pub borrowed_more : Status → Status
borrowed_more (Done b) = Done (b + 1)
borrowed_more Unclaimed = Unclaimed
borrowed_more (Claimed w) = Claimed w
borrowed_more Failed = Failed
borrowed_more Stolen = Stolen

abbrev pub borrowed_less : Status → Status
borrowed_less (Done b) = Done (b - 1)
borrowed_less Unclaimed = Unclaimed
borrowed_less (Claimed w) = Claimed w
borrowed_less Failed = Failed
borrowed_less Stolen = Stolen

abbrev pub give : ℕ → List Entry → List Entry
give s [] = []
give s (e ∷ es) = (e.0, e.1 ++ s ∷ []) ∷ es

abbrev pub below_top : List Entry → List Entry
below_top [] = []
below_top (e ∷ es) = es

-- whatever is not named stays. Each event of a worker ends its wait
abbrev pub calm : State → ℕ → State
calm c w = record c { wait = upd c.wait w None }

abbrev pub drawn_by : Plan → State → ℕ → State
drawn_by p c w = record c { wait = upd c.wait w None; root = upd c.root w (Some (p.root c.drawn)); drawn = c.drawn + 1 }

abbrev pub claimed_by : State → ℕ → ℕ → State
claimed_by c w q = record c { wait = upd c.wait w None; status = upd c.status q (Claimed w); stack = upd c.stack w ((q, []) ∷ c.stack w) }

abbrev pub saw : State → ℕ → ℕ → Status → State
saw c w q Unclaimed = record c { wait = upd c.wait w (Some q) }
saw c w q (Claimed v) = record c { wait = upd c.wait w (Some q) }
saw c w q (Done b) = record c { wait = upd c.wait w None; seen = upd c.seen w (upd (c.seen w) q true) }
saw c w q Failed = record c { wait = upd c.wait w None; gone = upd c.gone w (upd (c.gone w) q true) }
saw c w q Stolen = record c { wait = upd c.wait w None; seen = upd c.seen w (upd (c.seen w) q true) }

abbrev pub borrowed_by : State → ℕ → ℕ → State
borrowed_by c w s = record c { wait = upd c.wait w None; status = upd c.status s (borrowed_more (c.status s)); borrow = upd c.borrow w (Some s) }

abbrev pub released_by : State → ℕ → ℕ → State
released_by c w s = record c { wait = upd c.wait w None; status = upd c.status s (borrowed_less (c.status s)); borrow = upd c.borrow w None; stack = upd c.stack w (give s (c.stack w)) }

abbrev pub stolen_by : State → ℕ → ℕ → State
stolen_by c w s = record c { wait = upd c.wait w None; status = upd c.status s Stolen }

abbrev pub published_by : State → ℕ → ℕ → State
published_by c w q = record c { wait = upd c.wait w None; status = upd c.status q (Done 0); stack = upd c.stack w (below_top (c.stack w)); seen = upd c.seen w (upd (c.seen w) q true) }

abbrev pub failed_by : State → ℕ → ℕ → State
failed_by c w q = record c { wait = upd c.wait w None; status = upd c.status q Failed; stack = upd c.stack w (below_top (c.stack w)); gone = upd c.gone w (upd (c.gone w) q true) }

abbrev pub on_top : State → List Entry → (State → ℕ → State) → State
on_top c [] f = c
on_top c (e ∷ es) f = f c e.0

-- the state after an event that is legal
abbrev pub after : Plan → State → Event → State
after p c (Claim w q) = claimed_by c w q
after p c (Look w q) = saw c w q (c.status q)
after p c (Borrow w s) = borrowed_by c w s
after p c (Release w s) = released_by c w s
after p c (Steal w s) = stolen_by c w s
after p c (Publish w) = on_top c (c.stack w) (λ d q. published_by d w q)
after p c (Fail w) = on_top c (c.stack w) (λ d q. failed_by d w q)
after p c (Draw w) = drawn_by p c w

-- each need of the top is given, except the slot that it steals, which is seen done
abbrev pub AllSeen : Plan → State → ℕ → Entry → Type 0
AllSeen p c w e =
    ((n : ℕ) → has n (p.needs e.0) ≡ true → p.steals e.0 ≢ Some n → has n e.1 ≡ true)
    × ((s : ℕ) → p.steals e.0 ≡ Some s → c.seen w s ≡ true)

-- each need is given, but for the one that is stolen
abbrev pub all_given : List ℕ → Option ℕ → List ℕ → Bool
all_given given steals [] = true
all_given given steals (n ∷ ns) = (has n given || is steals n) && all_given given steals ns

abbrev pub seen_if : (ℕ → Bool) → Option ℕ → Bool
seen_if seen None = true
seen_if seen (Some s) = seen s

abbrev pub all_seen : Plan → State → ℕ → Entry → Bool
all_seen p c w e = all_given e.1 (p.steals e.0) (p.needs e.0) && seen_if (c.seen w) (p.steals e.0)

-- the top, and what is below it
abbrev pub HasTop : State → ℕ → Entry → List Entry → Type 0
HasTop c w e es = c.stack w ≡ e ∷ es

pub record MayDraw (p : Plan) (c : State) (w : ℕ) : Type 0 where
  pub worker : w < c.workers
  pub empty : c.stack w ≡ []
  pub idle : (r : ℕ) → c.root w ≡ Some r → (c.seen w r ≡ true) ⊎ (c.gone w r ≡ true)
  pub left : c.drawn < p.roots

pub record MayClaim (p : Plan) (c : State) (w q : ℕ) : Type 0 where
  pub worker : w < c.workers
  pub query : q < p.queries
  pub next : next p c w ≡ Some q
  pub free : c.status q ≡ Unclaimed

-- q is next, or the stack is empty and q is a root
abbrev pub WaitFits : Plan → List Entry → Option ℕ → ℕ → Type 0
WaitFits p es root q = (next_of_top p es root ≡ Some q) ⊎ ((es ≡ []) × ((i : ℕ) × (i < p.roots) × (p.root i ≡ q)))

abbrev pub MayWait : Plan → State → ℕ → ℕ → Type 0
MayWait p c w q = WaitFits p (c.stack w) (c.root w) q

pub record MayLook (p : Plan) (c : State) (w q : ℕ) : Type 0 where
  pub worker : w < c.workers
  pub query : q < p.queries
  pub next : MayWait p c w q
  pub other : c.status q ≢ Claimed w

pub record MayBorrow (p : Plan) (c : State) (w s : ℕ) (e : Entry) (es : List Entry) (b : ℕ) : Type 0 where
  pub worker : w < c.workers
  pub query : s < p.queries
  pub top : c.stack w ≡ e ∷ es
  pub next : next_need (p.needs e.0) e.1 ≡ Some s
  pub kept : p.steals e.0 ≢ Some s
  pub seen : c.seen w s ≡ true
  pub free : c.borrow w ≡ None
  pub done : c.status s ≡ Done b

pub record MayRelease (p : Plan) (c : State) (w s : ℕ) : Type 0 where
  pub worker : w < c.workers
  pub query : s < p.queries
  pub borrows : c.borrow w ≡ Some s

pub record MaySteal (p : Plan) (c : State) (w s : ℕ) (e : Entry) (es : List Entry) : Type 0 where
  pub worker : w < c.workers
  pub query : s < p.queries
  pub top : c.stack w ≡ e ∷ es
  pub steals : p.steals e.0 ≡ Some s
  pub all_seen : AllSeen p c w e
  pub done : c.status s ≡ Done 0

pub record MayPublish (p : Plan) (c : State) (w : ℕ) (e : Entry) (es : List Entry) : Type 0 where
  pub worker : w < c.workers
  pub top : c.stack w ≡ e ∷ es
  pub all_seen : AllSeen p c w e
  pub free : c.borrow w ≡ None
  pub taken : (s : ℕ) → p.steals e.0 ≡ Some s → c.status s ≡ Stolen

pub record MayFail (p : Plan) (c : State) (w : ℕ) (e : Entry) (es : List Entry) : Type 0 where
  pub worker : w < c.workers
  pub top : c.stack w ≡ e ∷ es
  pub free : c.borrow w ≡ None

abbrev pub Legal : Plan → State → Event → Type 0
Legal p c (Claim w q) = MayClaim p c w q
Legal p c (Look w q) = MayLook p c w q
Legal p c (Borrow w s) = (e : Entry) × (es : List Entry) × (b : ℕ) × MayBorrow p c w s e es b
Legal p c (Release w s) = MayRelease p c w s
Legal p c (Steal w s) = (e : Entry) × (es : List Entry) × MaySteal p c w s e es
Legal p c (Publish w) = (e : Entry) × (es : List Entry) × MayPublish p c w e es
Legal p c (Fail w) = (e : Entry) × (es : List Entry) × MayFail p c w e es
Legal p c (Draw w) = MayDraw p c w

-- nothing is claimed, seen or drawn
abbrev pub start : ℕ → State
start n = record { workers = n; status = λ q. Unclaimed; stack = λ w. []; borrow = λ w. None; seen = λ w q. false; gone = λ w q. false; wait = λ w. None; root = λ w. None; drawn = 0 }
