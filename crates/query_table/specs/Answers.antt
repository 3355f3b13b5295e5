-- What the calls answer, and which seats and tokens belong to a table.
use Rattle.std.specs.Prelude.{◌≡◌, ◌≢◌, ℕ, ◌<◌, ◌≤◌, false, []}
use Rattle.atomic_table.specs.Seated.{TableId}
use Rattle.query_table.specs.Rule.{failed_word}
use Rattle.query_table.specs.declared.table.Seat.{Seat}
use Rattle.query_table.specs.declared.token.Claim.{Claim}
use Rattle.query_table.specs.declared.token.Borrow.{Borrow}
use Rattle.query_table.specs.declared.token.Stolen.{Stolen}
use Rattle.query_table.specs.declared.table.Looked.{Looked}
use Rattle.query_table.specs.declared.table.Looked.TheVariants.{Done, Failed, NotYet}
use Rattle.query_table.specs.declared.table.Claimed.{Claimed}
use Rattle.query_table.specs.declared.table.Claimed.TheVariants.{Won, Lost}

-- the seat is of this table, and holds none of its slots
abbrev pub IsSeatOf : TableId → Seat → Type 0
IsSeatOf table seat = (seat.token.table_id ≡ table) × (seat.token.me.1 ≡ [])

-- the claim is of this table, of one of its queries
pub record IsClaimOf (table : TableId) (queries : ℕ) (claim : Claim) : Type 0 where
  pub same : claim.by.value.token.table_id ≡ table
  pub below : claim.query < queries

-- the borrow is of this table, of the slot of one of its queries
pub record IsBorrowOf (table : TableId) (queries : ℕ) (borrow : Borrow) : Type 0 where
  pub same : borrow.by.value.token.table_id ≡ table
  pub below : borrow.slot < queries

-- the slot that was stolen is of this table, of one of its queries
pub record IsStolenOf (table : TableId) (queries : ℕ) (stolen : Stolen) : Type 0 where
  pub same : stolen.by.value.token.table_id ≡ table
  pub below : stolen.slot < queries

-- a claim of the query that was just won
pub record IsNewClaim (table : TableId) (queries q : ℕ) (claim : Claim) : Type 0 where
  pub of_table : IsClaimOf table queries claim
  pub query : claim.query ≡ q
  pub empty : claim.filled ≡ false

-- won exactly where the word found was 0, and else lost with that word
abbrev pub claim_answer : TableId → ℕ → ℕ → Claimed → ℕ → Type 0
claim_answer table queries q (Won claim) found = (found ≡ 0) × IsNewClaim table queries q claim
claim_answer table queries q (Lost word) found = (word ≡ found) × (found ≢ 0)

-- not yet exactly where the word was 0 or 1, failed exactly where it was that of a query that failed
abbrev pub look_answer : Looked → ℕ → Type 0
look_answer (NotYet word) found = (word ≡ found) × (found < 2)
look_answer Failed found = found ≡ failed_word
look_answer Done found = (2 ≤ found) × (found ≢ failed_word)
