use Rattle.std.proofs.Common.{◌∙◌, sym, ap, map, length}
use Rattle.std.proofs.lemmas.List.{length-map}
use Rattle.mir_syntax.specs.Tree.{at_id, trees_of, node}
use Rattle.mir_syntax.specs.Crate.{crate_of}
use Rattle.mir_syntax.specs.Shapes.{shapes_of, field_id}
use Rattle.sroa_pass.proofs.equal.Own.{own_tuple, own_struct, own_enum, own_scalar, own_ref, own_ref_mut}
use Rattle.sroa_pass.proofs.chosen.own_count.Goals as goal

pub returns-in-Tuple : goal.returns-in-Tuple
returns-in-Tuple c =
    c.len.ensures ∙ sym (length-map c.in-Tuple.ids (at_id (trees_of c.args.program.now.types)))
    ∙ ap length (sym (own_tuple (shapes_of (crate_of c.args.program.now)) (trees_of c.args.program.now.types) (at_id (trees_of c.args.program.now.types) c.args.ty) c.in-Tuple.ids (c.ty.ensures.stands ∙ ap (node (trees_of c.args.program.now.types)) c.in-Tuple.is)))

pub returns-in-Some : goal.returns-in-Some
returns-in-Some c =
    let fields = c.in-Some.fields.now in
    sym (length-map fields field_id) ∙ sym (length-map (map field_id fields) (at_id (trees_of c.args.program.now.types)))
    ∙ ap length (sym (own_struct (shapes_of (crate_of c.args.program.now)) (trees_of c.args.program.now.types) (at_id (trees_of c.args.program.now.types) c.args.ty) c.in-Named.def fields (c.ty.ensures.stands ∙ ap (node (trees_of c.args.program.now.types)) c.in-Named.is) c.in-Some.ensures.fields))

pub returns-in-None : goal.returns-in-None
returns-in-None c = ap length (sym (own_enum (shapes_of (crate_of c.args.program.now)) (trees_of c.args.program.now.types) (at_id (trees_of c.args.program.now.types) c.args.ty) c.in-Named.def (c.ty.ensures.stands ∙ ap (node (trees_of c.args.program.now.types)) c.in-Named.is) c.in-None.ensures.fields))

pub returns-in-Scalar : goal.returns-in-Scalar
returns-in-Scalar c = ap length (sym (own_scalar (shapes_of (crate_of c.args.program.now)) (trees_of c.args.program.now.types) (at_id (trees_of c.args.program.now.types) c.args.ty) c.in-Scalar.field-0 (c.ty.ensures.stands ∙ ap (node (trees_of c.args.program.now.types)) c.in-Scalar.is)))

pub returns-in-Ref : goal.returns-in-Ref
returns-in-Ref c = ap length (sym (own_ref (shapes_of (crate_of c.args.program.now)) (trees_of c.args.program.now.types) (at_id (trees_of c.args.program.now.types) c.args.ty) (at_id (trees_of c.args.program.now.types) c.in-Ref.field-0) (c.ty.ensures.stands ∙ ap (node (trees_of c.args.program.now.types)) c.in-Ref.is)))

pub returns-in-RefMut : goal.returns-in-RefMut
returns-in-RefMut c = ap length (sym (own_ref_mut (shapes_of (crate_of c.args.program.now)) (trees_of c.args.program.now.types) (at_id (trees_of c.args.program.now.types) c.args.ty) (at_id (trees_of c.args.program.now.types) c.in-RefMut.field-0) (c.ty.ensures.stands ∙ ap (node (trees_of c.args.program.now.types)) c.in-RefMut.is)))
