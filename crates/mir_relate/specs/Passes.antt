-- What each pass over one body keeps. A pass is a function of the shapes of a crate's definitions and the body.
use Rattle.std.specs.Prelude.{ℕ, List}
use Rattle.mir_syntax.specs.Crate.{TypedBody, Crate}
use Rattle.mir_syntax.specs.Shapes.{Shape, shapes_of}
use Rattle.mir_semantics.specs.Refines.{Refines}
use Rattle.mir_rules.specs.Calls.{AddsNoCall}
use Rattle.mir_rules.specs.Drops.{NoDrops}
use Rattle.mir_rules.specs.Valid.{at_function, ValidAt}

-- the body that the pass makes of one that is valid in the place of a function's
abbrev pub passed_at : (List Shape → TypedBody → TypedBody) → (C : Crate) (f : ℕ) (b : TypedBody) → ValidAt C f b → TypedBody
passed_at pass C f b valid = pass (shapes_of (at_function C f valid.function b)) b

-- it is valid there too, holds no `drop` and calls no function that the body doesn't; and the crate with it refines the crate with the body,
-- where the body holds no `drop`
pub record PassLaws (pass : List Shape → TypedBody → TypedBody) : Type 0 where
  pub refines : (C : Crate) (f : ℕ) (b : TypedBody) (valid : ValidAt C f b) → NoDrops b → Refines (at_function C f valid.function (passed_at pass C f b valid)) (at_function C f valid.function b)
  pub stays_valid : (C : Crate) (f : ℕ) (b : TypedBody) (valid : ValidAt C f b) → ValidAt C f (passed_at pass C f b valid)
  pub no_drops : (C : Crate) (f : ℕ) (b : TypedBody) (valid : ValidAt C f b) → NoDrops b → NoDrops (passed_at pass C f b valid)
  pub no_calls : (C : Crate) (f : ℕ) (b : TypedBody) (valid : ValidAt C f b) → AddsNoCall (passed_at pass C f b valid) b
