-- Valid crates, crates within the limits, and bodies that are valid in a crate.
use Rattle.std.specs.Prelude.{◌≡◌, ℕ, ◌≤◌, IsTrue, [], length, set, Some, slice_get}
use Rattle.mir_syntax.specs.Crate.{TypedBody, TypedFunction, Crate}
use Rattle.mir_syntax.specs.Shapes.{shapes_of}
use Rattle.mir_rules.specs.Formed.{is_formed}
use Rattle.mir_rules.specs.Broken.{broken}
use Rattle.mir_rules.specs.Limits.{passed, most_in_body, blocks_count, locals_count}

-- formed, and no rule is broken; V07 speaks of what is written in a text and isn't among them
pub record Valid (C : Crate) : Type 0 where
  pub formed : IsTrue (is_formed C)
  pub rules : broken C ≡ []

-- no limit is passed
pub record Within (C : Crate) : Type 0 where
  pub limits : passed C ≡ []

-- ---- bodies

abbrev pub with_body : TypedFunction → TypedBody → TypedFunction
with_body f b = record f { body = b }

-- the crate with another body at a function
abbrev pub at_function : Crate → ℕ → TypedFunction → TypedBody → Crate
at_function C f g b = record C { functions = set C.functions f (with_body g b) }

-- in place of the body of function f the crate stays valid with it
pub record ValidAt (C : Crate) (f : ℕ) (b : TypedBody) : Type 0 where
  pub function : TypedFunction
  pub is : slice_get C.functions f ≡ Some function
  pub valid : Valid (at_function C f function b)
  pub blocks : length b.blocks ≤ most_in_body
  pub locals : length b.locals ≤ most_in_body

-- a body that drops may still be elaborated: its drops become blocks and locals
pub record Elaborable (C : Crate) (b : TypedBody) : Type 0 where
  pub blocks : blocks_count (shapes_of C) b ≤ most_in_body
  pub locals : locals_count (shapes_of C) b ≤ most_in_body
