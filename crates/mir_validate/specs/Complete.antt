-- Tables in which the types stand that are asked for beside those of a program.
use Rattle.std.specs.Prelude.{◌≡◌, ℕ, List, slice_get, Some}
use Rattle.mir_syntax.specs.declared.types.Ty.{Ty}
use Rattle.mir_syntax.specs.declared.types.Ty.TheVariants as ty
use Rattle.mir_syntax.specs.declared.program.Program.{Program}
use Rattle.mir_syntax.specs.Tree.{Extends}

-- the program with more types in its table, and else as it was
pub record Grown (old new : Program) : Type 0 where
  pub defs : new.defs ≡ old.defs
  pub outsides : new.outsides ≡ old.outsides
  pub functions : new.functions ≡ old.functions
  pub types : Extends old.types new.types

-- a type stands in a table
abbrev pub Has : List Ty → Ty → Type 0
Has types t = (k : ℕ) × (slice_get types k ≡ Some t)

-- `&mut` of the type of a number
abbrev pub mutable : ℕ → Ty
mutable k = ty.RefMut (record { 0 = k })
