-- Which units may be initialised at a block's start, and which surely are: what the paths from bb0 to the block leave of them.
use Rattle.std.specs.Prelude.{◌≡◌, ℕ, zero, suc, Bool, true, false, not, ◌&&◌, nat_le, List, [], ◌∷◌, Option, Some, None, slice_get}
use Rattle.std.specs.List.{Contains}
use Rattle.mir_syntax.specs.declared.body.Place.{Place}
use Rattle.mir_syntax.specs.Crate.{TypedStmt, TypedBlock, TypedBody}
use Rattle.mir_syntax.specs.Parts.{targets}
use Rattle.move_paths.specs.Effects.{effect, term_effect}

-- whether a unit is initialised after an effect
abbrev pub after_effect : Option Bool → Bool → Bool
after_effect None was = was
after_effect (Some now) was = now

abbrev pub after_stmts : Place → List TypedStmt → Bool → Bool
after_stmts u [] was = was
after_stmts u (s ∷ ss) was = after_stmts u ss (after_effect (effect u s) was)

-- over a block and along an edge that leaves it
abbrev pub after_block : Place → TypedBlock → Bool → Bool
after_block u k was = after_effect (term_effect u k.term) (after_stmts u k.stmts was)

-- the units of arguments are initialised at bb0, and the others aren't
abbrev pub is_argument : ℕ → Place → Bool
is_argument args u = not (nat_le u.local 0) && nat_le u.local args

-- some path of so many edges from bb0 leads to a block, at the start of which the unit is then initialised or isn't
abbrev pub ComesBy : TypedBody → Place → ℕ → ℕ → Bool → Type 0
ComesBy b u zero i now = (i ≡ 0) × (now ≡ is_argument b.args u)
ComesBy b u (suc n) i now = (a : ℕ) × (k : TypedBlock) × (was : Bool) × ComesBy b u n a was × (slice_get b.blocks a ≡ Some k) × Contains (targets k.term) i × (now ≡ after_block u k was)

-- some path from bb0 leaves it so
abbrev pub Comes : TypedBody → Place → ℕ → Bool → Type 0
Comes b u i now = (n : ℕ) × ComesBy b u n i now

-- a unit may be initialised at a block's start: on some path it is
abbrev pub MaybeAt : TypedBody → Place → ℕ → Type 0
MaybeAt b u i = Comes b u i true

-- it surely is: on no path it isn't. So it is in a block to which no path leads.
abbrev pub SurelyAt : TypedBody → Place → ℕ → Type 0
SurelyAt b u i = Comes b u i false → ⊥
