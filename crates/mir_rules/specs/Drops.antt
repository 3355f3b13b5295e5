-- Bodies that drop nothing.
use Rattle.std.specs.Prelude.{◌≡◌, ℕ, Bool, true, false, Some, slice_get}
use Rattle.mir_syntax.specs.declared.body.Term.{Term}
use Rattle.mir_syntax.specs.declared.body.Term.TheVariants.{Drop}
use Rattle.mir_syntax.specs.Crate.{TypedBlock, TypedBody}

abbrev pub is_drop : Term → Bool
is_drop (Drop p u) = true
is_drop _ = false

-- no block ends in `drop`
pub record NoDrops (b : TypedBody) : Type 0 where
  pub none : (i : ℕ) (k : TypedBlock) → slice_get b.blocks i ≡ Some k → is_drop k.term ≡ false
