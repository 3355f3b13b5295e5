use Rattle.mir_syntax.specs.declared.body.Proj.TheVariants as proj
use Rattle.mir_syntax.specs.Tree.{at_id, trees_of}
use Rattle.mir_syntax.specs.Crate.{crate_of}
use Rattle.mir_syntax.specs.Shapes.{shapes_of, proj_ty}
use Rattle.mir_bodies.proofs.OnTypes.{none_then, some_then}
use Rattle.mir_bodies.proofs.place.field_of.Goals as goal

pub returns-in_err-ty-clause-ty : goal.returns-in_err-ty-clause-ty
returns-in_err-ty-clause-ty c =
    rw c.from_residual.ensures
    (none_then (at_id (trees_of c.args.program.now.types)) (λ t. proj_ty (shapes_of (crate_of c.args.program.now)) t (proj.Field c.args.index)) c.args.ty c.in_err-ty.was)

pub returns-clause-ty : goal.returns-clause-ty
returns-clause-ty c =
    some_then (at_id (trees_of c.args.program.now.types)) (λ t. proj_ty (shapes_of (crate_of c.args.program.now)) t (proj.Field c.args.index)) c.args.ty c.in_ok-ty.field-0 _
    c.in_ok-ty.was c.field_ty.ensures.ty
