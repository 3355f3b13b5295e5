use Rattle.mir_syntax.specs.Tree.{at_id, trees_of}
use Rattle.mir_syntax.specs.Shapes as shapes
use Rattle.mir_bodies.proofs.OnTypes.{none_then, some_then}
use Rattle.mir_bodies.proofs.place.behind.Goals as goal

pub returns-in_err-ty-clause-ty : goal.returns-in_err-ty-clause-ty
returns-in_err-ty-clause-ty c = rw c.from_residual.ensures (none_then (at_id (trees_of c.args.program.now.types)) shapes.pointee c.args.ty c.in_err-ty.was)

pub returns-clause-ty : goal.returns-clause-ty
returns-clause-ty c = some_then (at_id (trees_of c.args.program.now.types)) shapes.pointee c.args.ty c.in_ok-ty.field-0 _ c.in_ok-ty.was c.pointee.ensures.ty
