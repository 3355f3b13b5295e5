-- Bodies that may be inlined into a function of a crate.
use Rattle.std.specs.Prelude.{◌≡◌, ℕ, Option, Some, None, slice_get}
use Rattle.mir_syntax.specs.Crate.{TypedBody, TypedFunction, Crate}
use Rattle.mir_rules.specs.Drops.{NoDrops}

-- no body of the crate holds `drop`
pub record DropFree (C : Crate) : Type 0 where
  pub bodies : (j : ℕ) (n : TypedFunction) → slice_get C.functions j ≡ Some n → NoDrops n.body

-- each body that is taken for function f stands at its function in the crate, which is another one
pub record Lent (C : Crate) (f : ℕ) (taken : ℕ → Option TypedBody) : Type 0 where
  pub other : taken f ≡ None
  pub stands : (g : ℕ) (h : TypedBody) → taken g ≡ Some h → (n : TypedFunction) × (slice_get C.functions g ≡ Some n) × (n.body ≡ h)
