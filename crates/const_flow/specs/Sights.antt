-- What a walk over a body sees, and what it knows.
use Rattle.std.specs.Prelude.{◌≡◌, List, length, Option, Some, None}
use Rattle.mir_syntax.specs.declared.body.Place.{Place}
use Rattle.mir_syntax.specs.declared.body.Body.{Body}
use Rattle.mir_syntax.specs.declared.program.Program.{Program}
use Rattle.mir_syntax.specs.Tree.{Tree, trees_of}
use Rattle.mir_syntax.specs.Crate.{crate_of, body_of}
use Rattle.mir_syntax.specs.Shapes.{shapes_of}
use Rattle.mir_semantics.specs.Step.{Here}
use Rattle.const_flow.specs.declared.cell.Cell.{Cell}
use Rattle.const_flow.specs.declared.sight.Sight.{Sight}
use Rattle.const_flow.specs.declared.effects.Walk.{Walk}
use Rattle.const_flow.specs.Facts.{Facts}
use Rattle.const_flow.specs.ConstAt.{Reached, text}
use Rattle.const_flow.specs.Cells.{facts_of}

abbrev pub text_of : Program → Body → Here
text_of p b = text (shapes_of (crate_of p)) (body_of (trees_of p.types) b)

abbrev pub text_in : Sight → Here
text_in s = text_of s.program.now s.body.now

-- what the ids of the program stand for
abbrev pub trees_in : Sight → List Tree
trees_in s = trees_of s.program.now.types

abbrev pub facts_in : Sight → List Cell → Facts
facts_in s ks = facts_of s.paths.now ks

-- what a walk knows, if there is one: none is in a block that is unreached
abbrev pub walked : List Place → Option Walk → Reached
walked ps None = None
walked ps (Some w) = Some (facts_of ps w.cells)

-- it has a cell for each tracked place
abbrev pub Follows : List Place → Option Walk → Type 0
Follows ps None = Unit {0}
Follows ps (Some w) = length w.cells ≡ length ps
