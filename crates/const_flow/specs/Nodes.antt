-- The flow of constants as it is solved. Each block has three nodes side by side: its start, and its end before it and behind it, from where
-- the targets up to the block are reached and those behind it. So what is known goes along all of a way that leads up or down the blocks in one
-- sweep over the nodes, and a block's statements are gone over at most twice for all its targets.
use Rattle.std.specs.Prelude.{◌≡◌, ◌⊎◌, ℕ, ◌+◌, ◌*◌, ◌/◌, ◌%◌, ◌<◌, Bool, ◌&&◌, ◌||◌, nat_eq, nat_lt, if◌then◌else◌, List, [], ◌∷◌, ◌++◌, map, length, get_or, Option, Some, None, option_map, slice_get}
use Rattle.std.specs.List.{Contains, list_any}
use Rattle.mir_syntax.specs.declared.body.Place.{Place}
use Rattle.mir_syntax.specs.declared.body.Term.{Term}
use Rattle.mir_syntax.specs.declared.body.Term.TheVariants.{Unreachable}
use Rattle.mir_syntax.specs.Crate.{TypedBlock, TypedBody, body_of}
use Rattle.mir_semantics.specs.Step.{Here}
use Rattle.mir_cfg.specs.Paths.{exits}
use Rattle.flow_engine.specs.declared.edges.Edge.{Edge}
use Rattle.const_flow.specs.declared.cell.Cell.{Cell}
use Rattle.const_flow.specs.Facts.{Fact, Facts, join, after_all, after_term, leads}
use Rattle.const_flow.specs.declared.sight.Sight.{Sight}
use Rattle.const_flow.specs.ConstAt.{Reached, sent_if, first_fact}
use Rattle.const_flow.specs.Sights.{trees_in}

-- ---- the nodes

abbrev pub start_node : ℕ → ℕ
start_node b = 3 * b + 1

-- a block's end, on the way to a target
abbrev pub end_node : ℕ → ℕ → ℕ
end_node b t = if nat_lt b t then 3 * b + 2 else 3 * b

abbrev pub is_start : ℕ → Bool
is_start node = nat_eq (node % 3) 1

-- the block of a node
abbrev pub node_block : ℕ → ℕ
node_block node = node / 3

-- what stands at the starts, of what stands at the nodes
abbrev pub at_starts : {A : Type 0} → List A → List A
at_starts [] = []
at_starts (x ∷ []) = []
at_starts (x ∷ y ∷ []) = y ∷ []
at_starts (x ∷ y ∷ z ∷ xs) = y ∷ at_starts xs

-- ---- the edges

abbrev pub edge_to : ℕ → ℕ → Edge
edge_to a b = record { from = a; to = b }

-- over a block, on the way to a target
abbrev pub over : ℕ → ℕ → Edge
over b t = edge_to (start_node b) (end_node b t)

-- and from its end to the target's start
abbrev pub out : ℕ → ℕ → Edge
out b t = edge_to (end_node b t) (start_node t)

-- the edge over a block to one of its ends, if a target is reached from there
abbrev pub overs_to : ℕ → ℕ → List ℕ → List Edge
overs_to b end targets = if list_any (λ t. nat_eq (end_node b t) end) targets then edge_to (start_node b) end ∷ [] else []

-- the edges of a block with these targets
abbrev pub edges_of : ℕ → List ℕ → List Edge
edges_of b targets = overs_to b (3 * b) targets ++ overs_to b (3 * b + 2) targets ++ map (out b) targets

-- an edge on the way from a block to a target
abbrev pub IsOf : List Term → ℕ → Edge → Type 0
IsOf terms b e = (t : ℕ) × Contains (exits terms b) t × ((e ≡ over b t) ⊎ (e ≡ out b t))

-- these are the edges of the first so many blocks
pub record HasEdges (terms : List Term) (count : ℕ) (edges : List Edge) : Type 0 where
  pub only : (e : Edge) → Contains edges e → (b : ℕ) × (b < count) × IsOf terms b e
  pub overs : (b t : ℕ) → b < count → Contains (exits terms b) t → Contains edges (over b t)
  pub outs : (b t : ℕ) → b < count → Contains (exits terms b) t → Contains edges (out b t)

-- an edge that begins at a block's start, or leads to one of its targets
abbrev pub is_edge : ℕ → List Term → Edge → Bool
is_edge blocks terms e = nat_lt (node_block e.from) blocks && (is_start e.from || list_any (nat_eq (node_block e.to)) (exits terms (node_block e.from)))

-- ---- what is known at the nodes

-- the body with types in the place of their ids
abbrev pub body_in : Sight → TypedBody
body_in s = body_of (trees_in s) s.body.now

abbrev pub no_block : TypedBlock
no_block = record { stmts = []; term = Unreachable }

abbrev pub block_at : List TypedBlock → ℕ → TypedBlock
block_at blocks b = get_or blocks b no_block

-- at a block's end, of what is known at its start
abbrev pub gone_over : Here → TypedBlock → Reached → Reached
gone_over h k x = option_map (after_all h k.stmts) x

-- what a terminator sends to a block, of what is known before it
abbrev pub sent_out : Term → ℕ → Reached → Reached
sent_out t b None = None
sent_out t b (Some fs) = sent_if (leads fs t b) (after_term t fs)

abbrev pub along : Here → List TypedBlock → Option Edge → Reached → Reached
along h blocks None x = None
along h blocks (Some e) x = if is_start e.from then gone_over h (block_at blocks (node_block e.from)) x else sent_out (block_at blocks (node_block e.from)).term (node_block e.to) x

-- what an edge makes of what is known where it begins
abbrev pub flown : Here → List TypedBlock → List Edge → ℕ → Reached → Reached
flown h blocks edges i x = along h blocks (slice_get edges i) x

-- what is known at first of a node: at bb0's start, of the tracked places
abbrev pub begun : TypedBody → List Place → ℕ → Reached
begun b places node = if nat_eq node 1 then Some (map (first_fact b) places) else None

-- ---- the same by cells

abbrev pub known_of : Fact → Cell
known_of e = e.known

abbrev pub cells_of : Facts → List Cell
cells_of fs = map known_of fs

abbrev pub row_of : Reached → Option (List Cell)
row_of x = option_map cells_of x

-- a row has a cell for each tracked place
abbrev pub IsRow : List Place → Option (List Cell) → Type 0
IsRow places None = Unit {0}
IsRow places (Some ks) = length ks ≡ length places

-- cells joined to others, one by one
abbrev pub join_cells : List Cell → List Cell → List Cell
join_cells (k ∷ ks) (l ∷ ls) = join k l ∷ join_cells ks ls
join_cells ks _ = ks
