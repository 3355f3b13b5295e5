use Rattle.std.proofs.Common.{◌≡◌, ◌<◌, IfSome, length}
use Rattle.std.specs.Option.{option_map}
use Rattle.mir_syntax.specs.declared.types.TyId.{TyId}
use Rattle.mir_syntax.specs.Tree.{at_id, trees_of}
use Rattle.mir_bodies.specs.Places.{pointee_of}
use Rattle.mir_bodies.proofs.PlaceSteps.{deref_step}
use Rattle.mir_bodies.proofs.place.through_deref.Goals as goal

pub returns : goal.returns
returns c = λ sense start line q draft same h r.
    let ty = c.behind.result in
    let stands : option_map (at_id (trees_of draft.program.types)) ty ≡ pointee_of (option_map (at_id (trees_of draft.program.types)) c.args.walk.ty) = rw same c.behind.ensures.ty in
    let inside : IfSome ty (λ (id : TyId). id.0 < length draft.program.types) = rw same (c.behind.ensures.in_table h) in
    deref_step sense start line q c.args.walk draft ty c.push.new.self stands inside c.in_ok-push.ensures.ok r
