-- What a seat holds while it forces a root: its claims, each with its work, the latest one last.
use Rattle.std.specs.Prelude.{◌≡◌, ℕ, ◌<◌, true, false, List, [], ◌∷◌, ◌++◌, Some, None}
use Rattle.atomic_table.specs.Seated.{TableId}
use Rattle.sched_core.specs.Plan.{Plan, has}
use Rattle.sched_core.specs.State.{Entry, queries_of}
use Rattle.query_table.specs.declared.token.Claim.{Claim}
use Rattle.query_table.specs.declared.table.Seat.{Seat}
use Rattle.query_table.specs.declared.view.View.{View}
use Rattle.query_table.specs.Steps.{without}
use Rattle.query_table.specs.declared.force.Progress.{Progress}
use Rattle.query_table.specs.declared.force.Progress.TheVariants.{On, Done, Failed}
use Rattle.query_table.specs.Rule.{last_root}
use Rattle.query_table.specs.Answers.{IsSeatOf, IsClaimOf}

-- a list, read from its end, matches the entries of a stack, read from its top
abbrev pub Matches : {H : Type 0} → (H → Entry → Type 0) → List Entry → List H → Type 0
Matches R [] items = items ≡ []
Matches {H = H} R (e ∷ es) items = (h : H) × ((hs : List H) × ((items ≡ hs ++ h ∷ []) × R h e × Matches R es hs))

-- a claim with the work of its query, which was given the needs of the entry
pub record HeldAs {W : Type 0} (p : Plan) (is_work : ℕ → W → Type 0) (given : ℕ → W → List ℕ) (table : TableId) (claim : Claim) (work : W) (e : Entry) : Type 0 where
  pub of_table : IsClaimOf table p.queries claim
  pub empty : claim.filled ≡ false
  pub begun : is_work claim.query work
  pub query : e.0 ≡ claim.query
  pub has_given : e.1 ≡ given claim.query work
  -- what it steals is never given
  pub kept : (s : ℕ) → p.steals e.0 ≡ Some s → has s e.1 ≡ false

-- a claim of the entry's query
pub record ClaimedAs (table : TableId) (queries : ℕ) (claim : Claim) (e : Entry) : Type 0 where
  pub of_table : IsClaimOf table queries claim
  pub query : e.0 ≡ claim.query

-- ranks rise down a stack
abbrev pub Rising : Plan → List Entry → Type 0
Rising p [] = Unit {0}
Rising p (e ∷ es) = ((r : ℕ) → has r (queries_of es) ≡ true → p.rank e.0 < p.rank r) × Rising p es

-- the lowest entry is that of the root
abbrev pub StandsOn : ℕ → List Entry → Type 0
StandsOn q [] = Unit {0}
StandsOn q (e ∷ []) = e.0 ≡ q
StandsOn q (e ∷ f ∷ es) = StandsOn q (f ∷ es)

-- a seat on its way to a root: it borrows nothing, and no claim of it has stolen yet
pub record IsForcing (p : Plan) (table : TableId) (q : ℕ) (seat : Seat) : Type 0 where
  pub of_table : IsSeatOf table seat
  pub root : last_root p seat.token.me.0.drawn ≡ Some q
  pub free : seat.token.me.0.borrow ≡ None
  pub thieves : seat.token.me.0.thieves ≡ []
  pub rising : Rising p seat.token.me.0.stack
  pub stands : StandsOn q seat.token.me.0.stack

-- the same, where works may be lost
pub record IsGivingUp (table : TableId) (q : ℕ) (seat : Seat) : Type 0 where
  pub of_table : IsSeatOf table seat
  pub free : seat.token.me.0.borrow ≡ None
  pub thieves : seat.token.me.0.thieves ≡ []
  pub stands : StandsOn q seat.token.me.0.stack
  -- where nothing is claimed, the root was seen failed
  pub failed : seat.token.me.0.stack ≡ [] → has q seat.token.me.0.gone ≡ true

-- a seat that has nothing claimed or borrowed
pub record IsIdle (table : TableId) (seat : Seat) : Type 0 where
  pub of_table : IsSeatOf table seat
  pub empty : seat.token.me.0.stack ≡ []
  pub free : seat.token.me.0.borrow ≡ None
  pub thieves : seat.token.me.0.thieves ≡ []

-- a view after what the query steals, if anything, was stolen
pub record HasTaken (p : Plan) (v w : View) (q : ℕ) : Type 0 where
  pub stack : w.stack ≡ v.stack
  pub free : w.borrow ≡ v.borrow
  pub seen : w.seen ≡ v.seen
  pub drawn : w.drawn ≡ v.drawn
  pub taken : (s : ℕ) → p.steals q ≡ Some s → has q w.thieves ≡ true
  pub others : without q w.thieves ≡ []

-- what a turn leaves: on its way; or done, with nothing claimed; or giving up
abbrev pub IsTurn : {H W : Type 0} → Plan → (ℕ → W → Type 0) → (ℕ → W → List ℕ) → (H → Claim) → (H → W) → TableId → ℕ → Seat → List H → Progress → Type 0
IsTurn p is_work given claim_of work_of table q seat items On =
    IsForcing p table q seat × Matches (λ h e. HeldAs p is_work given table (claim_of h) (work_of h) e) seat.token.me.0.stack items
IsTurn p is_work given claim_of work_of table q seat items Done = IsIdle table seat × (items ≡ []) × (has q seat.token.me.0.seen ≡ true)
IsTurn p is_work given claim_of work_of table q seat items Failed =
    IsGivingUp table q seat × Matches (λ h e. ClaimedAs table p.queries (claim_of h) e) seat.token.me.0.stack items
