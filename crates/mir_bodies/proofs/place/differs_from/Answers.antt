use Rattle.std.proofs.Common.{◌≡◌, ◌<◌, Some, IfSome, length, not, ap₂, sym, ◌∙◌}
use Rattle.mir_syntax.specs.declared.types.TyId.{TyId}
use Rattle.mir_syntax.specs.Tree.{at_id, trees_of}
use Rattle.mir_syntax.proofs.Growth.{at_id-extends}
use Rattle.mir_text.specs.Names.{type_named, ty_of, same_type}
use Rattle.mir_tree.specs.Types.{type_rule}
use Rattle.mir_bodies.proofs.TellsOn.{tells_on, ty_inside}
use Rattle.mir_bodies.proofs.SameTypes.{differ_ids}
use Rattle.mir_bodies.proofs.place.differs_from.Goals as goal

pub returns-in-Some-clause-differs : goal.returns-in-Some-clause-differs
returns-in-Some-clause-differs g c =
    let old = c.args.draft.now.program.types in
    let new = c.read_noted.new.draft.program.types in
    let grown = c.in_ok-written.ensures.went.grown.types in
    let id = c.in-Some.id in
    let below : IfSome (Some id) (λ (k : TyId). k.0 < length old) = rw c.in-Some.is at c.requires.1 in
    let same : at_id (trees_of new) id ≡ at_id (trees_of old) id = at_id-extends old new id grown below in
    let told : at_id (trees_of new) c.in_ok-written.written ≡ ty_of g.sense.names (type_rule c.args.text.now) =
    c.in_ok-written.ensures.stands ∙ ap₂ (λ s p. type_named s p (type_rule c.args.text.now)) (sym c.requires.0.strings) (sym c.requires.0.paths) in
    rw c.in-Some.is
    (differ_ids new id c.in_ok-written.written c.read_noted.new.draft.program.table (ty_inside old new (Some id) grown below) c.in_ok-written.ensures.inside
    ∙ ap₂ (λ t u. not (same_type t u)) same told)

pub returns-in-Some-clause-tells : goal.returns-in-Some-clause-tells
returns-in-Some-clause-tells g c = tells_on c.requires.0 c.in_ok-written.ensures.went.grown

pub returns-in-None-clause-tells : goal.returns-in-None-clause-tells
returns-in-None-clause-tells g c = tells_on c.requires.0 c.in_ok-written.ensures.went.grown
