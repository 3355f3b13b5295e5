-- What an elaborated body calls: what the body calls, and the destructors of what it drops.
use Rattle.std.specs.Prelude.{◌≡◌, ◌⊎◌, ℕ, false, List, ◌++◌, Some, slice_get}
use Rattle.mir_syntax.specs.declared.body.Place.{Place}
use Rattle.mir_syntax.specs.declared.body.Proj.{Proj}
use Rattle.mir_syntax.specs.declared.body.Callee.{Callee}
use Rattle.mir_syntax.specs.declared.body.Callee.TheVariants.{Local}
use Rattle.mir_syntax.specs.declared.body.Term.TheVariants.{Drop}
use Rattle.mir_syntax.specs.Tree.{named}
use Rattle.mir_syntax.specs.Parts.{has_deref}
use Rattle.mir_syntax.specs.Crate.{TypedBlock, TypedBody}
use Rattle.mir_syntax.specs.Shapes.{Shape, place_ty}
use Rattle.mir_rules.specs.Calls.{Calls}

-- a part of the place, or the place itself, has a type with this destructor
pub record Holds (D : List Shape) (b : TypedBody) (p : Place) (g : ℕ) : Type 0 where
  pub path : List Proj
  pub inside : has_deref path ≡ false
  pub def : ℕ
  pub ty : place_ty D b.locals (record p { proj = p.proj ++ path }) ≡ Some (named def)
  pub shape : Shape
  pub is : slice_get D def ≡ Some shape
  pub destructor : shape.destructor ≡ Some g

-- some block of the body ends in a drop of what holds one with this destructor
pub record Destroys (D : List Shape) (b : TypedBody) (c : Callee) : Type 0 where
  pub at : ℕ
  pub block : TypedBlock
  pub place : Place
  pub next : ℕ
  pub is : slice_get b.blocks at ≡ Some block
  pub drops : block.term ≡ Drop place next
  pub g : ℕ
  pub callee : c ≡ Local (record { 0 = g })
  pub holds : Holds D b place g

-- the first body calls only what the second calls, and destructors of what that drops
abbrev pub AddsDestructors : List Shape → TypedBody → TypedBody → Type 0
AddsDestructors D e b = (c : Callee) → Calls e c → Calls b c ⊎ Destroys D b c
