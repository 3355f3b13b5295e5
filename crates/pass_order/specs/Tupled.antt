-- What the laws of an optimised crate ask of its types: each crate that a table of types stands behind has it.
use Rattle.std.specs.Prelude.{◌≡◌, ℕ, Some, slice_get}
use Rattle.mir_syntax.specs.Crate.{TypedFunction, Crate}
use Rattle.mir_syntax.specs.Shapes.{shapes_of}
use Rattle.drop_elab.specs.Tupled.{TypesTupled}

-- in the types of each body and of the definitions, what is left of a tuple behind its first part is a tuple
abbrev pub BodiesTupled : Crate → Type 0
BodiesTupled C = (f : ℕ) (g : TypedFunction) → slice_get C.functions f ≡ Some g → TypesTupled (shapes_of C) g.body
