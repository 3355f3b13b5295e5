-- A seat of the claim race.
use Rattle.std.specs.Prelude.{◌≡◌, ℕ, false, [], ◌∷◌, Some, None}
use Rattle.atomic_table.specs.Seated.{TableId}
use Rattle.sched_core.specs.Plan.{has, next_need}
use Rattle.query_table.specs.Answers.{IsSeatOf, IsClaimOf}
use Rattle.query_table.specs.declared.table.Seat.{Seat}
use Rattle.query_table.specs.declared.token.Claim.{Claim}
use Rattle.small_jobs.specs.Small.{small_needs}

-- the seat has claimed a root and nothing else, and needs query 1 next
pub record HasClaimed (table : TableId) (r : ℕ) (claim : Claim) (seat : Seat) : Type 0 where
  pub of_table : IsSeatOf table seat
  pub own : IsClaimOf table 4 claim
  pub stack : seat.token.me.0.stack ≡ (claim.query, []) ∷ []
  pub free : seat.token.me.0.borrow ≡ None
  pub next : next_need (small_needs r claim.query) [] ≡ Some 1
  pub other : has 1 (claim.query ∷ []) ≡ false
