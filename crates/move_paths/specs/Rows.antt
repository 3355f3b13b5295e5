-- Rows of bits, one for each unit of a body: whether it may have a status, initialised or not.
use Rattle.std.specs.Prelude.{◌≡◌, ℕ, ◌<◌, ◌≤◌, Bool, true, false, not, ◌&&◌, nat_le, nat_lt, IsTrue, if◌then◌else◌, List, [], ◌∷◌, Option, Some, None, length, map, slice_get}
use Rattle.std.specs.List.{Contains}
use lib.Lanes.{zip2}
use Rattle.mir_syntax.specs.declared.body.Place.{Place}
use Rattle.mir_syntax.specs.Crate.{TypedStmt, TypedBlock}
use Rattle.mir_syntax.specs.Parts.{targets}
use Rattle.flow_engine.specs.declared.edges.Edge.{Edge}
use Rattle.liveness.specs.Rows.{block_at, blank}
use Rattle.move_paths.specs.declared.units.Span.{Span}
use Rattle.move_paths.specs.Effects.{is_under, effect, term_effect}
use Rattle.move_paths.specs.Inits.{is_argument}

-- a unit has the status that is followed
abbrev pub has : Bool → Bool → Bool
has true now = now
has false now = not now

-- whether it may have it after an effect
abbrev pub passed : Bool → Option Bool → Bool → Bool
passed status None before = before
passed status (Some now) before = has status now

abbrev pub passed_stmts : Bool → List TypedStmt → Place → Bool → Bool
passed_stmts status [] u before = before
passed_stmts status (s ∷ ss) u before = passed_stmts status ss u (passed status (effect u s) before)

abbrev pub passed_block : Bool → TypedBlock → Place → Bool → Bool
passed_block status k u before = passed status (term_effect u k.term) (passed_stmts status k.stmts u before)

-- the bits of the units at or under a place are written
abbrev pub written : Place → Bool → Place → Bool → Bool
written p on u before = if is_under p u then on else before

-- a row after something was done to the bit of each unit
abbrev pub each_unit : (Place → Bool → Bool) → List Place → List Bool → List Bool
each_unit f us row = zip2 f us row

-- the units that have a status at a block's end, though they hadn't at its start
abbrev pub end_row : Bool → List Place → TypedBlock → List Bool
end_row status us k = each_unit (passed_block status k) us (blank (length us))

-- the units that have a status where the body begins
abbrev pub first_row : Bool → ℕ → List Place → List Bool
first_row status args us = map (λ u. has status (is_argument args u)) us

abbrev pub in_span : ℕ → Option Span → Bool
in_span k None = false
in_span k (Some s) = nat_le s.from k && nat_lt k s.to

-- of each local the numbers of its units lie between two numbers
pub record IsSpanned (us : List Place) (spans : List Span) : Type 0 where
  pub within : (x : ℕ) (s : Span) → slice_get spans x ≡ Some s → s.to ≤ length us
  pub each : (k : ℕ) (u : Place) → slice_get us k ≡ Some u → IsTrue (in_span k (slice_get spans u.local))

abbrev pub edge_on : ℕ → ℕ → Edge
edge_on block target = record { from = block; to = target }

-- of the first so many blocks, the edges that leave those that are reached
pub record IsOnward (Reached : ℕ → Type 0) (blocks : List TypedBlock) (count : ℕ) (edges : List Edge) : Type 0 where
  pub only : (e : Edge) → Contains edges e → (e.from < count) × Reached e.from × Contains (targets (block_at blocks e.from).term) e.to
  pub all : (a t : ℕ) → a < count → Reached a → Contains (targets (block_at blocks a).term) t → Contains edges (edge_on a t)
