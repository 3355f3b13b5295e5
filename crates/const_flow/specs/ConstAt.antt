-- What is known of the tracked scalars at the start of each block, as the least solution of a flow problem. It is what rounds over all blocks
-- at once end in, from unreached everywhere, as many as the height allows.
use Rattle.std.specs.Prelude.{ℕ, suc, ◌+◌, ◌*◌, Bool, true, false, not, ◌&&◌, nat_eq, nat_le, if◌then◌else◌, List, [], ◌∷◌, ◌++◌, map, length, Option, Some, None}
use Rattle.mir_syntax.specs.declared.body.Place.{Place}
use Rattle.mir_syntax.specs.Crate.{TypedBlock, TypedBody}
use Rattle.mir_syntax.specs.Shapes.{Shape}
use Rattle.mir_syntax.specs.Parts.{targets}
use Rattle.mir_semantics.specs.Step.{Here}
use Rattle.escape_info.specs.Borrowed.{borrowed}
use Rattle.place_map.specs.Tracked as places
use Rattle.flow_engine.specs.Flow.{Arrow, Flow}
use Rattle.const_flow.specs.declared.cell.Cell.TheVariants.{Nothing, Many}
use Rattle.const_flow.specs.Facts.{Fact, Facts, join, after_all, after_term, leads}
use Rattle.const_flow.specs.Rounds.{round, repeated}

-- a block's facts: none where it is unreached
abbrev pub Reached : Type 0
Reached = Option Facts

abbrev pub join_each : Facts → Facts → Facts
join_each (e ∷ fs) (d ∷ gs) = record { place = e.place; known = join e.known d.known } ∷ join_each fs gs
join_each fs gs = fs

abbrev pub join_reached : Reached → Reached → Reached
join_reached None y = y
join_reached (Some fs) None = Some fs
join_reached (Some fs) (Some gs) = Some (join_each fs gs)

abbrev pub sent_if : Bool → Facts → Reached
sent_if true fs = Some fs
sent_if false fs = None

-- what a block sends to another
unfoldable pub sent : Here → TypedBlock → ℕ → Reached → Reached
sent h k b None = None
sent h k b (Some fs) = sent_if (leads (after_all h k.stmts fs) k.term b) (after_term k.term (after_all h k.stmts fs))

-- a body as it is read: its frame doesn't matter
abbrev pub text : List Shape → TypedBody → Here
text D b = record { shapes = D; locals = b.locals; frame = 0 }

-- the tracked places of a body: those of locals that aren't borrowed
abbrev pub tracked : List Shape → TypedBody → List Place
tracked D b = places.tracked D (borrowed D b) b

-- at the start arguments may be anything, and the other locals are holes
abbrev pub is_arg : TypedBody → ℕ → Bool
is_arg b x = not (nat_eq x 0) && nat_le x b.args

abbrev pub first_fact : TypedBody → Place → Fact
first_fact b p = record { place = p; known = if is_arg b p.local then Many else Nothing }

abbrev pub first_facts : List Shape → TypedBody → Facts
first_facts D b = map (first_fact b) (tracked D b)

abbrev pub unreached : List TypedBlock → List Reached
unreached [] = []
unreached (k ∷ ks) = None ∷ unreached ks

abbrev pub begins : List Shape → TypedBody → List TypedBlock → List Reached
begins D b [] = []
begins D b (k ∷ ks) = Some (first_facts D b) ∷ unreached ks

abbrev pub arrow : Here → ℕ → TypedBlock → ℕ → Arrow Reached
arrow h a k t = record { from = a; to = t; flow = sent h k t }

abbrev pub arrows_from : Here → ℕ → List TypedBlock → List (Arrow Reached)
arrows_from h a [] = []
arrows_from h a (k ∷ ks) = map (arrow h a k) (targets k.term) ++ arrows_from h (suc a) ks

-- the flow problem of a body
unfoldable pub const_flow : List Shape → TypedBody → Flow Reached
const_flow D b = record { join = join_reached; starts = begins D b b.blocks; arrows = arrows_from (text D b) 0 b.blocks }

-- the facts at the blocks' starts
unfoldable pub const_at : List Shape → TypedBody → List Reached
const_at D b = repeated (length b.blocks * (2 * length (tracked D b) + 1)) (round (const_flow D b)) (unreached b.blocks)
