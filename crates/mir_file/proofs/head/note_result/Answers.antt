use Rattle.std.proofs.Common.{◌<◌, Some, IfSome, length, ◌∙◌, ap}
use Rattle.mir_syntax.specs.Tree.{at_id, trees_of}
use Rattle.mir_syntax.specs.declared.types.TyId.{TyId}
use Rattle.mir_text.specs.NameFaults.{on_line, unless}
use Rattle.mir_resolve.specs.Faults.{noted}
use Rattle.mir_bodies.proofs.SameTypes.{differ_ids}
use Rattle.mir_file.proofs.HeadSteps.{not_same, no_result}
use Rattle.mir_file.proofs.head.note_result.Goals as goal

pub returns-in-Some : goal.returns-in-Some
returns-in-Some c =
    let types = c.args.program.now.types in
    let id = c.in-Some.id in
    let below : IfSome (Some id) (λ (k : TyId). k.0 < length types) = rw c.in-Some.is at c.requires.inside in
    rw c.in-Some.is
    (c.note_unless.ensures
    ∙ ap (λ b. noted c.args.notes.now (on_line c.args.line (unless b 14))) (not_same _ _ (differ_ids types id c.args.ty c.args.program.now.table below c.requires.result_inside)))

pub returns-in_default : goal.returns-in_default
returns-in_default c =
    no_result (at_id (trees_of c.args.program.now.types)) c.args.declared (at_id (trees_of c.args.program.now.types) c.args.ty) c.args.line c.args.notes.now c.in_default.not-Some
