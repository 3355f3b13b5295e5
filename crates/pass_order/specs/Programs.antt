-- The same of programs with ids.
use Rattle.std.specs.Prelude.{◌≡◌, ◌<◌, ℕ, suc, [], ◌∷◌, take, length}
use Rattle.mir_syntax.specs.declared.body.Block.{Block}
use Rattle.mir_syntax.specs.declared.body.Body.{Body}
use Rattle.mir_syntax.specs.declared.body.Term.TheVariants.{Unreachable}
use Rattle.mir_syntax.specs.declared.body.Function.{Function}
use Rattle.mir_syntax.specs.declared.program.Program.{Program}
use Rattle.mir_syntax.specs.Tree.{trees_of}
use Rattle.mir_syntax.specs.Crate.{TypedFunction, body_of, crate_of}
use Rattle.mir_syntax.specs.Shapes.{shapes_of}
use Rattle.mir_syntax.specs.Ids.{BodyInTable}
use Rattle.pass_order.specs.Passes.{after_passes}
use Rattle.pass_order.specs.Fits.{FitsAt}

-- the ids of a body lie in the program's table, and it fits a function of the program
pub record CanPass (p : Program) (b : Body) : Type 0 where
  pub ids : BodyInTable p.types b
  pub at : ℕ
  pub there : TypedFunction
  pub fits : FitsAt (crate_of p) at there (body_of (trees_of p.types) b)

-- the function with its body after the passes
pub record PassesTo (p : Program) (g g2 : Function) : Type 0 where
  pub head : g2 ≡ record g { body = g2.body }
  pub ids : BodyInTable p.types g2.body
  pub passed : body_of (trees_of p.types) g2.body ≡ after_passes (shapes_of (crate_of p)) (body_of (trees_of p.types) g.body)

-- a function of which the header alone is left: no path, and one block that is never run
abbrev pub one_block : Block
one_block = record { stmts = []; term = Unreachable }

abbrev pub header_body : Body → Body
header_body b = record { args = b.args; locals = take (suc b.args) b.locals; blocks = one_block ∷ [] }

abbrev pub header_function : Function → Function
header_function g = record { path = []; inline = g.inline; is_drop = g.is_drop; body = header_body g.body }

-- `_0` and the arguments are there
abbrev pub HasHeader : Function → Type 0
HasHeader g = g.body.args < length g.body.locals
