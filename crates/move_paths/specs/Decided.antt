-- Whether some path from bb0 leaves a unit initialised at a block's start, or not, as a test that computes.
use Rattle.std.specs.Prelude.{ℕ, zero, suc, ◌*◌, Bool, true, false, ◌==◌, ◌&&◌, ◌||◌, length, Option, Some, None, slice_get}
use Rattle.std.specs.List.{list_any, range_with_len}
use Rattle.bit_rows.specs.Rows.{stands}
use Rattle.mir_syntax.specs.declared.body.Place.{Place}
use Rattle.mir_syntax.specs.Crate.{TypedBlock, TypedBody}
use Rattle.mir_syntax.specs.Parts.{targets}
use Rattle.move_paths.specs.Inits.{after_block, is_argument}
use Rattle.move_paths.specs.Rows.{has}

-- the block goes to block i, and leaves the unit so where it was so before
abbrev pub leaves : Place → ℕ → Bool → Bool → Option TypedBlock → Bool
leaves u i now was None = false
leaves u i now was (Some k) = stands i (targets k.term) && has now (after_block u k was)

-- block a does, given how the unit comes to the starts of blocks
abbrev pub leaves_from : TypedBody → Place → (ℕ → Bool → Bool) → ℕ → Bool → ℕ → Bool
leaves_from b u comes i now a = (comes a true && leaves u i now true (slice_get b.blocks a)) || (comes a false && leaves u i now false (slice_get b.blocks a))

-- the unit is so where the body begins
abbrev pub begins : TypedBody → Place → ℕ → Bool → Bool
begins b u i now = (i == 0) && has now (is_argument b.args u)

-- a path of fewer edges than this number leaves it so
abbrev pub comes_by : TypedBody → Place → ℕ → ℕ → Bool → Bool
comes_by b u zero i now = false
comes_by b u (suc n) i now = begins b u i now || list_any (leaves_from b u (λ a was. comes_by b u n a was) i now) (range_with_len 0 (length b.blocks))

-- some path does. For each block there are two ways to come to it, and a path that comes to none twice is enough
unfoldable pub comes : TypedBody → Place → ℕ → Bool → Bool
comes b u i now = comes_by b u (2 * length b.blocks) i now
