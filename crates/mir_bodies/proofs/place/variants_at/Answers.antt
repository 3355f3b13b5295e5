use Rattle.std.proofs.Common.{map}
use Rattle.mir_syntax.specs.Tree.{at_id, trees_of}
use Rattle.mir_syntax.specs.Crate.{def_of}
use Rattle.mir_bodies.specs.Places.{enum_variants_of}
use Rattle.mir_bodies.proofs.OnTypes.{none_then, some_then}
use Rattle.mir_bodies.proofs.place.variants_at.Goals as goal

pub returns-in_err-ty : goal.returns-in_err-ty
returns-in_err-ty c =
    let trees = trees_of c.args.program.now.types in
    rw c.from_residual.ensures (none_then (at_id trees) (enum_variants_of (map (def_of trees) c.args.program.now.defs)) c.args.ty c.in_err-ty.was)

pub returns : goal.returns
returns c =
    let trees = trees_of c.args.program.now.types in
    some_then (at_id trees) (enum_variants_of (map (def_of trees) c.args.program.now.defs)) c.args.ty c.in_ok-ty.field-0 _ c.in_ok-ty.was c.enum_variants.ensures
