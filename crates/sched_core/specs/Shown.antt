-- The state that the fields of a `Core` show.
use Rattle.std.specs.Prelude.{◌≡◌, ℕ, ◌<◌, ◌≤◌, Bool, true, false, List, [], ◌∷◌, ◌++◌, length, replicate, slice_get, slice_index_or, Option, Some, None, Vec}
use Rattle.sched_core.specs.declared.Status.TheVariants.{Unclaimed}
use Rattle.sched_core.specs.declared.Event.{Event}
use Rattle.sched_core.specs.declared.Event.TheVariants.{Claim, Look, Borrow, Release, Steal, Publish, Fail, Draw}
use Rattle.sched_core.specs.declared.state.Standing.{Standing}
use Rattle.sched_core.specs.declared.state.Core.{Core}
use Rattle.sched_core.specs.Plan.{Plan, IsLawful, next_need}
use Rattle.sched_core.specs.State.{State, Entry, after}
use Rattle.sched_core.specs.Good.{Good}

-- the top is last in the row
abbrev pub stack_of : List Standing → List Entry
stack_of [] = []
stack_of (x ∷ xs) = stack_of xs ++ (x.query, x.given.items) ∷ []

abbrev pub row_at : {A Z : Type 0} → Option (Vec A Z) → List A
row_at None = []
row_at (Some v) = v.items

abbrev pub state_of : Core → State
state_of c = record {
  workers = length c.borrow.items;
  status = λ q. slice_index_or c.status.items q Unclaimed;
  stack = λ w. stack_of (row_at (slice_get c.stacks.items w));
  borrow = λ w. slice_index_or c.borrow.items w None;
  seen = λ w q. slice_index_or (row_at (slice_get c.seen.items w)) q false;
  gone = λ w q. slice_index_or (row_at (slice_get c.gone.items w)) q false;
  wait = λ w. slice_index_or c.wait.items w None;
  root = λ w. slice_index_or c.root.items w None;
  drawn = c.drawn;
}

-- each list is as long as it is to be
pub record IsSized (p : Plan) (c : Core) : Type 0 where
  pub few : length c.borrow.items ≤ 64
  pub status : length c.status.items ≡ p.queries
  pub stacks : length c.stacks.items ≡ length c.borrow.items
  pub seen : length c.seen.items ≡ length c.borrow.items
  pub gone : length c.gone.items ≡ length c.borrow.items
  pub wait : length c.wait.items ≡ length c.borrow.items
  pub root : length c.root.items ≡ length c.borrow.items
  pub told : length c.told.items ≡ length c.borrow.items
  pub seen_rows : (w : ℕ) → w < length c.borrow.items → length (row_at (slice_get c.seen.items w)) ≡ p.queries
  pub gone_rows : (w : ℕ) → w < length c.borrow.items → length (row_at (slice_get c.gone.items w)) ≡ p.queries

abbrev pub has_room : {A Z : Type 0} → Option (Vec A Z) → Type 0
has_room None = Unit {0}
has_room (Some v) = v.len < v.cap

-- where the worker has a top, the core was told its next need
abbrev pub IsTold : Plan → Core → ℕ → Type 0
IsTold p c w =
    (e : Entry) (es : List Entry) → stack_of (row_at (slice_get c.stacks.items w)) ≡ e ∷ es → slice_index_or c.told.items w None ≡ Some (next_need (p.needs e.0) e.1)

-- the top of the row can be given one need more
abbrev pub has_given_room : List Standing → Type 0
has_given_room [] = Unit {0}
has_given_room (x ∷ []) = x.given.len < x.given.cap
has_given_room (x ∷ (y ∷ ys)) = has_given_room (y ∷ ys)

-- what was told is the next need of the top
abbrev pub Says : Plan → Option ℕ → List Entry → Type 0
Says p need [] = Unit {0}
Says p need (e ∷ es) = need ≡ next_need (p.needs e.0) e.1

-- an empty row has room for an entry. Where its need was told, a row has room for one entry and one given need more
abbrev pub Ready : {Z : Type 0} → Plan → Option (Option ℕ) → Option (Vec Standing Z) → Type 0
Ready p told None = Unit {0}
Ready p None (Some row) = row.len ≡ 0 → row.len < row.cap
Ready p (Some need) (Some row) = (row.len < row.cap) × has_given_room row.items × Says p need (stack_of row.items)

abbrev pub AreReady : Plan → Core → Type 0
AreReady p c = (w : ℕ) → Ready p (slice_index_or c.told.items w None) (slice_get c.stacks.items w)

-- nothing is marked in the row
abbrev pub IsBlank : {Z : Type 0} → ℕ → Option (Vec Bool Z) → Type 0
IsBlank len None = Unit {0}
IsBlank len (Some row) = row.items ≡ replicate len false

abbrev pub IsEmptyRow : {Z : Type 0} → Option (Vec Standing Z) → Type 0
IsEmptyRow None = Unit {0}
IsEmptyRow (Some row) = (row.items ≡ []) × (row.len < row.cap)

-- the core is good for a lawful plan: its lists are as long as they are to be, its rows have room, and its state is good
pub record GoodFor (p : Plan) (c : Core) : Type 0 where
  pub lawful : IsLawful p
  pub sized : IsSized p c
  pub rows : AreReady p c
  pub good : Good p (state_of c)

abbrev pub worker_of : Event → ℕ
worker_of (Claim w q) = w
worker_of (Look w q) = w
worker_of (Borrow w s) = w
worker_of (Release w s) = w
worker_of (Steal w s) = w
worker_of (Publish w) = w
worker_of (Fail w) = w
worker_of (Draw w) = w

-- the event changes the top of its worker or what the top was given
abbrev pub moves_top : Event → Bool
moves_top (Claim w q) = true
moves_top (Look w q) = false
moves_top (Borrow w s) = false
moves_top (Release w s) = true
moves_top (Steal w s) = false
moves_top (Publish w) = true
moves_top (Fail w) = true
moves_top (Draw w) = false

-- what an event does to the fields of a core
pub record Happens (p : Plan) (c d : Core) (e : Event) : Type 0 where
  pub state : state_of d ≡ after p (state_of c) e
  pub sized : IsSized p c → IsSized p d
  pub rows : AreReady p c → AreReady p d
  -- what was told stands, but for a worker whose top moved
  pub told : (v : ℕ) → (v ≡ worker_of e → moves_top e ≡ false) → IsTold p c v → IsTold p d v
