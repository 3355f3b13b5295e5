-- Bodies that can go through the passes.
use Rattle.std.specs.Prelude.{◌≡◌, ℕ, suc, ◌≤◌, length, take, Some, slice_get}
use Rattle.mir_syntax.specs.Crate.{TypedBody, TypedFunction, Crate}
use Rattle.mir_rules.specs.Limits.{most_in_body}
use Rattle.mir_rules.specs.Valid.{Valid, at_function}

-- a body that may stand at a function of the crate: it has the function's header, and the crate is valid with it and within the limits of a body
pub record FitsAt (C : Crate) (f : ℕ) (g : TypedFunction) (b : TypedBody) : Type 0 where
  pub is : slice_get C.functions f ≡ Some g
  pub valid : Valid (at_function C f g b)
  pub args : b.args ≡ g.body.args
  pub start : take (suc g.body.args) b.locals ≡ take (suc g.body.args) g.body.locals
  pub blocks : length b.blocks ≤ most_in_body
  pub locals : length b.locals ≤ most_in_body
