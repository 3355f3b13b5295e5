-- Which functions a body calls.
use Rattle.std.specs.Prelude.{◌≡◌, ℕ, List, Some, slice_get}
use Rattle.mir_syntax.specs.declared.body.Place.{Place}
use Rattle.mir_syntax.specs.declared.body.Operand.{Operand}
use Rattle.mir_syntax.specs.declared.body.Callee.{Callee}
use Rattle.mir_syntax.specs.declared.body.Term.TheVariants.{Call}
use Rattle.mir_syntax.specs.Crate.{TypedBlock, TypedBody}

-- some block of the body ends in a call of it
abbrev pub Calls : TypedBody → Callee → Type 0
Calls b g = (i : ℕ) × (k : TypedBlock) × (p : Place) × (os : List Operand) × (next : ℕ) × (slice_get b.blocks i ≡ Some k) × (k.term ≡ Call p g os next)

-- the first body calls only what the second calls
abbrev pub AddsNoCall : TypedBody → TypedBody → Type 0
AddsNoCall b2 b = (g : Callee) → Calls b2 g → Calls b g
