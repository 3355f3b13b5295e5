-- The facts of the flow of live locals: one row, of the locals that are live before a block's first statement.
use Rattle.std.specs.Prelude.{◌≡◌, ℕ, ◌<◌, Bool, true, nat_lt, ◌||◌, if◌then◌else◌, cond, List, [], ◌∷◌, set, sum_by, Option, Some, None, slice_get}
use lib.Lanes.{zip2}
use Rattle.bit_rows.specs.Rows.{row_at, flag, and_not, HasSize}
use Rattle.flow_engine.specs.declared.edges.Edge.{Edge}
use Rattle.liveness.specs.Rows.{blank}

-- edges lead to blocks that have rows
pub record IsSized (blocks bits : ℕ) (edges : List Edge) (gens kills : List (List Bool)) : Type 0 where
  pub ends : (i : ℕ) (e : Edge) → slice_get edges i ≡ Some e → e.to < blocks
  pub gens_size : HasSize gens blocks bits
  pub kills_size : HasSize kills blocks bits

-- each one of the first is one of the second
pub record IsBelow (bits : ℕ) (x y : List (List Bool)) : Type 0 where
  pub first_size : HasSize x 1 bits
  pub second_size : HasSize y 1 bits
  pub ones : (k : ℕ) → flag x 0 k ≡ true → flag y 0 k ≡ true

abbrev pub one_if : Bool → ℕ
one_if b = cond b 1 0

-- how many locals are live
abbrev pub ones : List Bool → ℕ
ones row = sum_by one_if row

abbrev pub count_ones : List (List Bool) → ℕ
count_ones x = ones (row_at x 0)

abbrev pub begun : ℕ → ℕ → List (List Bool) → ℕ → List (List Bool)
begun blocks bits gens b = (if nat_lt b blocks then row_at gens b else blank bits) ∷ []

abbrev pub joined : List (List Bool) → List (List Bool) → List (List Bool)
joined x y = set x 0 (zip2 (λ a b. a || b) (row_at x 0) (row_at y 0))

-- without what a block fills, with what it reads before
abbrev pub after : List Bool → List Bool → List Bool → List Bool
after row kill gen = zip2 (λ a b. a || b) (zip2 and_not row kill) gen

abbrev pub along : ℕ → List (List Bool) → List (List Bool) → List (List Bool) → Option Edge → List (List Bool)
along bits gens kills x None = blank bits ∷ []
along bits gens kills x (Some e) = after (row_at x 0) (row_at kills e.to) (row_at gens e.to) ∷ []

-- what an edge makes of a fact
abbrev pub sent : ℕ → List Edge → List (List Bool) → List (List Bool) → ℕ → List (List Bool) → List (List Bool)
sent bits edges gens kills i x = along bits gens kills x (slice_get edges i)
