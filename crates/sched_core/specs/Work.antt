-- How much is left to do. Each event that goes on makes it less.
use Rattle.std.specs.Prelude.{ℕ, zero, suc, ◌+◌, ◌-◌, ◌*◌, Bool, List, [], ◌∷◌, Option, Some, None, if◌then◌else◌}
use Rattle.sched_core.specs.declared.Status.{Status}
use Rattle.sched_core.specs.declared.Status.TheVariants.{Unclaimed, Claimed, Done, Failed, Stolen}
use Rattle.sched_core.specs.declared.Event.{Event}
use Rattle.sched_core.specs.Plan.{Plan, has}
use Rattle.sched_core.specs.State.{State, Entry, after}
use Rattle.sched_core.specs.Turn.{turn}

-- f of each number below n, added up
abbrev pub sum_below : (ℕ → ℕ) → ℕ → ℕ
sum_below f zero = 0
sum_below f (suc n) = f n + sum_below f n

-- how many needs are not given
abbrev pub missing : List ℕ → List ℕ → ℕ
missing [] given = 0
missing (n ∷ ns) given = (if has n given then 0 else 1) + missing ns given

abbrev pub open_work : Plan → List Entry → ℕ
open_work p [] = 0
open_work p (e ∷ es) = 2 * missing (p.needs e.0) e.1 + open_work p es

abbrev pub weight : Plan → ℕ → Status → ℕ
weight p q Unclaimed = 2 * missing (p.needs q) [] + 4
weight p q (Claimed w) = 3
weight p q (Done b) = 1
weight p q Failed = 0
weight p q Stolen = 0

abbrev pub is_free_hand : Option ℕ → ℕ
is_free_hand None = 1
is_free_hand (Some s) = 0

abbrev pub unseen : (ℕ → Bool) → ℕ → ℕ
unseen seen n = sum_below (λ q. if seen q then 0 else 1) n

abbrev pub work_left : Plan → State → ℕ
work_left p c =
    sum_below (λ q. weight p q (c.status q)) p.queries
    + (sum_below (λ w. open_work p (c.stack w)) c.workers
    + (sum_below (λ w. is_free_hand (c.borrow w)) c.workers
    + (sum_below (λ w. unseen (c.seen w) p.queries) c.workers
    + (p.roots - c.drawn))))

-- the events of the turns of a schedule, from c on. A turn that passes adds none
abbrev pub trail_from : Plan → State → Option Event → ℕ → (State → List Event) → List Event
trail_from p c None w go = go c
trail_from p c (Some e) w go = e ∷ go (after p c e)

abbrev pub trail_of : Plan → State → List ℕ → List Event
trail_of p c [] = []
trail_of p c (w ∷ ws) = trail_from p c (turn p c w) w (λ d. trail_of p d ws)
