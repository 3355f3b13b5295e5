use Rattle.std.proofs.Common.{◌∙◌, sym, ap, ◌++◌, map, length, arith}
use Rattle.std.proofs.lemmas.Result.{on_ok_weaker}
use Rattle.mir_syntax.proofs.Growth.{all_below-more}
use Rattle.mir_syntax.specs.Tree.{at_id, trees_of, node}
use Rattle.mir_syntax.specs.Crate.{crate_of}
use Rattle.mir_syntax.specs.Shapes.{shapes_of, field_id}
use Rattle.sroa_pass.proofs.equal.Own.{own_tuple, own_struct, own_enum, own_scalar, own_ref, own_ref_mut, ids_of_fields, adds_none}
use Rattle.sroa_pass.proofs.chosen.push_fields.Goals as goal

pub returns-in-Tuple : goal.returns-in-Tuple
returns-in-Tuple c =
    let n = length c.args.program.now.types in
    let ids = c.in-Tuple.ids in
    on_ok_weaker c.extend.result
    (λ e. record {
      added = ids;
      is = e ∙ ap (λ xs. c.args.locals.now ++ xs) c.as_slice.ensures;
      types = sym (own_tuple (shapes_of (crate_of c.args.program.now)) (trees_of c.args.program.now.types) (at_id (trees_of c.args.program.now.types) c.args.ty) ids (c.ty.ensures.stands ∙ ap (node (trees_of c.args.program.now.types)) c.in-Tuple.is));
      in_table = λ h l. all_below-more c.args.ty.0 n (omega (arith, l)) ids (let made = c.ty.ensures.made in rw c.in-Tuple.is at made);
    })
    c.extend.ensures.ok

pub returns-in-Some : goal.returns-in-Some
returns-in-Some c =
    let fields = c.in-Some.fields.now in
    on_ok_weaker c.push_types.result
    (λ e. record {
      added = map field_id fields;
      is = e;
      types = sym (own_struct (shapes_of (crate_of c.args.program.now)) (trees_of c.args.program.now.types) (at_id (trees_of c.args.program.now.types) c.args.ty) c.in-Named.def fields (c.ty.ensures.stands ∙ ap (node (trees_of c.args.program.now.types)) c.in-Named.is) c.in-Some.ensures.fields);
      in_table = λ h l. ids_of_fields (length c.args.program.now.types) fields (c.in-Some.ensures.in_table h);
    })
    c.push_types.ensures

pub returns-in-None : goal.returns-in-None
returns-in-None c = adds_none c.args.program.now c.args.ty c.args.locals.now (own_enum (shapes_of (crate_of c.args.program.now)) (trees_of c.args.program.now.types) (at_id (trees_of c.args.program.now.types) c.args.ty) c.in-Named.def (c.ty.ensures.stands ∙ ap (node (trees_of c.args.program.now.types)) c.in-Named.is) c.in-None.ensures.fields)

pub returns-in-Scalar : goal.returns-in-Scalar
returns-in-Scalar c = adds_none c.args.program.now c.args.ty c.args.locals.now (own_scalar (shapes_of (crate_of c.args.program.now)) (trees_of c.args.program.now.types) (at_id (trees_of c.args.program.now.types) c.args.ty) c.in-Scalar.field-0 (c.ty.ensures.stands ∙ ap (node (trees_of c.args.program.now.types)) c.in-Scalar.is))

pub returns-in-Ref : goal.returns-in-Ref
returns-in-Ref c = adds_none c.args.program.now c.args.ty c.args.locals.now (own_ref (shapes_of (crate_of c.args.program.now)) (trees_of c.args.program.now.types) (at_id (trees_of c.args.program.now.types) c.args.ty) (at_id (trees_of c.args.program.now.types) c.in-Ref.field-0) (c.ty.ensures.stands ∙ ap (node (trees_of c.args.program.now.types)) c.in-Ref.is))

pub returns-in-RefMut : goal.returns-in-RefMut
returns-in-RefMut c = adds_none c.args.program.now c.args.ty c.args.locals.now (own_ref_mut (shapes_of (crate_of c.args.program.now)) (trees_of c.args.program.now.types) (at_id (trees_of c.args.program.now.types) c.args.ty) (at_id (trees_of c.args.program.now.types) c.in-RefMut.field-0) (c.ty.ensures.stands ∙ ap (node (trees_of c.args.program.now.types)) c.in-RefMut.is))
