use Rattle.std.proofs.Common.{◌∙◌, map, Some, refl, ap}
use Rattle.std.proofs.lemmas.Result.{IfOk-weaker}
use Rattle.mir_syntax.specs.Tree.{at_id, node, trees_of}
use Rattle.mir_semantics.specs.Entry.{both, flat_by, flat_def}
use Rattle.mir_meaning.specs.Programs.{shapes_in, type_in}
use Rattle.mir_meaning.specs.Views.{value_of, fields_of}
use Rattle.mir_machine.specs.Ends.{integer_in}
use Rattle.mir_entry.proofs.FlatParts.{scalar_is, flat_ref, flat_ref_mut, types_other, fields_other, pushed_true, pushed_false, types_pushed, types_stop, types_short, types_done, fields_pushed, fields_stop, fields_short, fields_done}
use Rattle.mir_entry.proofs.FlatDefs.{def_last, def_other, def_past, struct_pushed, variant_pushed}
use Rattle.mir_entry.proofs.Variants.{below_rest}
use Rattle.mir_entry.proofs.flats.+flat.Goals as goal

pub push_def-returns-then-depth-eq0 : goal.push_def-returns-then-depth-eq0
push_def-returns-then-depth-eq0 t c = def_last (shapes_in c.args.program.now) c.args.depth c.args.def (value_of c.args.value.now) (map integer_in c.args.out.now) c.if-depth-eq0.true

pub push_def-returns-in-Some : goal.push_def-returns-in-Some
push_def-returns-in-Some t c =
    IfOk-weaker c.push_struct.result _ _ (λ whole h. struct_pushed c.args.program.now c.args.depth c.args.def c.in-Some.fields.now (value_of c.args.value.now) (map integer_in c.args.out.now) _ c.if-depth-eq0.false c.in-Some.ensures.fields h) c.push_struct.ensures

pub push_def-returns-in_default-variant : goal.push_def-returns-in_default-variant
push_def-returns-in_default-variant t c = def_other (shapes_in c.args.program.now) c.args.depth c.args.def (value_of c.args.value.now) (map integer_in c.args.out.now) c.in_default.ensures.fields c.in_default-variant.ensures

pub push_def-returns-in_default-variant_fields : goal.push_def-returns-in_default-variant_fields
push_def-returns-in_default-variant_fields t c =
    def_past (shapes_in c.args.program.now) c.args.depth c.args.def c.in-Some-variant.place (type_in c.args.program.now c.args.id) (value_of c.args.value.now) (fields_of c.in-Some-variant.values.now) (map integer_in c.args.out.now) c.in_default.ensures.fields c.requires c.in_default-variant_fields.ensures.fields c.in-Some-variant.ensures

pub push_def-returns : goal.push_def-returns
push_def-returns t c =
    IfOk-weaker c.push_fields.result _ _ (λ whole h. variant_pushed c.args.program.now c.args.depth c.args.def c.in-Some-variant.place (type_in c.args.program.now c.args.id) c.in-Some-variant_fields.fields.now (value_of c.args.value.now) (fields_of c.in-Some-variant.values.now) c.args.out.now c.push.new.self _ _
    c.if-depth-eq0.false c.in_default.ensures.fields c.requires c.in-Some-variant_fields.ensures.fields c.in-Some-variant.ensures refl c.in_ok-push.ensures.ok h) c.push_fields.ensures

pub push_fields-returns-in_default-split_data : goal.push_fields-returns-in_default-split_data
push_fields-returns-in_default-split_data t c = fields_short (flat_def (shapes_in c.args.program.now) c.args.depth) (trees_of c.args.program.now.types) c.fields.fields.now c.in-Some.rest.now c.in-Some.field.now c.fields.values.now (map integer_in c.fields.out) _ c.in-Some.ensures c.in_default-split_data.ensures c.fields.invariant

pub push_fields-returns-then-not-branch : goal.push_fields-returns-then-not-branch
push_fields-returns-then-not-branch t c =
    fields_stop (flat_def (shapes_in c.args.program.now) c.args.depth) (trees_of c.args.program.now.types) c.fields.fields.now c.in-Some.rest.now c.in-Some.field.now c.fields.values.now c.in-Some-split_data.others.now c.in-Some-split_data.value.now (map integer_in c.fields.out) _ c.in-Some.ensures c.in-Some-split_data.ensures
    (pushed_false c.in_ok-push_value.field-0 c.push_value.new.out (both (Some (map integer_in c.fields.out)) (flat_by (flat_def (shapes_in c.args.program.now) c.args.depth) (type_in c.args.program.now c.in-Some.field.now.ty) (value_of c.in-Some-split_data.value.now))) c.in_ok-push_value.ensures c.if-not-branch.true) c.fields.invariant

pub push_fields-fields-preserved : goal.push_fields-fields-preserved
push_fields-fields-preserved t c =
    fields_pushed (flat_def (shapes_in c.args.program.now) c.args.depth) (trees_of c.args.program.now.types) c.fields.fields.now c.in-Some.rest.now c.in-Some.field.now c.fields.values.now c.in-Some-split_data.others.now c.in-Some-split_data.value.now (map integer_in c.fields.out) (map integer_in c.push_value.new.out) c.in-Some.ensures c.in-Some-split_data.ensures
    (pushed_true c.in_ok-push_value.field-0 c.push_value.new.out (both (Some (map integer_in c.fields.out)) (flat_by (flat_def (shapes_in c.args.program.now) c.args.depth) (type_in c.args.program.now c.in-Some.field.now.ty) (value_of c.in-Some-split_data.value.now))) c.in_ok-push_value.ensures c.if-not-branch.false) ∙ c.fields.invariant

pub push_fields-returns : goal.push_fields-returns
push_fields-returns t c = fields_done (flat_def (shapes_in c.args.program.now) c.args.depth) (trees_of c.args.program.now.types) c.fields.fields.now c.fields.values.now c.is_empty.result c.fields.out _ c.in_default.ensures c.is_empty.ensures c.fields.invariant

pub push_struct-returns-in_default : goal.push_struct-returns-in_default
push_struct-returns-in_default t c = fields_other (flat_def (shapes_in c.args.program.now) c.args.depth) (trees_of c.args.program.now.types) c.args.fields.now (value_of c.args.value.now) (map integer_in c.args.out.now) c.in_default.ensures

pub push_tuple-returns-in_default : goal.push_tuple-returns-in_default
push_tuple-returns-in_default t c = types_other (flat_def (shapes_in c.args.program.now) c.args.depth) (trees_of c.args.program.now.types) c.args.ids.now (value_of c.args.value.now) (map integer_in c.args.out.now) c.in_default.ensures

pub push_types-returns-in_default-split_data : goal.push_types-returns-in_default-split_data
push_types-returns-in_default-split_data t c = types_short (flat_def (shapes_in c.args.program.now) c.args.depth) (trees_of c.args.program.now.types) c.types.ids.now c.in-Some.rest.now c.in-Some.id c.types.values.now (map integer_in c.types.out) _ c.in-Some.ensures c.in_default-split_data.ensures c.types.invariant.same

pub push_types-returns-then-not-branch : goal.push_types-returns-then-not-branch
push_types-returns-then-not-branch t c =
    types_stop (flat_def (shapes_in c.args.program.now) c.args.depth) (trees_of c.args.program.now.types) c.types.ids.now c.in-Some.rest.now c.in-Some.id c.types.values.now c.in-Some-split_data.others.now c.in-Some-split_data.value.now (map integer_in c.types.out) _ c.in-Some.ensures c.in-Some-split_data.ensures
    (pushed_false c.in_ok-push_value.field-0 c.push_value.new.out (both (Some (map integer_in c.types.out)) (flat_by (flat_def (shapes_in c.args.program.now) c.args.depth) (type_in c.args.program.now c.in-Some.id) (value_of c.in-Some-split_data.value.now))) c.in_ok-push_value.ensures c.if-not-branch.true) c.types.invariant.same

pub push_types-types-preserved : goal.push_types-types-preserved
push_types-types-preserved t c = record {
  below = below_rest c.args.bound c.types.ids.now c.in-Some.rest.now c.in-Some.id c.in-Some.ensures c.types.invariant.below;
  same = types_pushed (flat_def (shapes_in c.args.program.now) c.args.depth) (trees_of c.args.program.now.types) c.types.ids.now c.in-Some.rest.now c.in-Some.id c.types.values.now c.in-Some-split_data.others.now c.in-Some-split_data.value.now (map integer_in c.types.out) (map integer_in c.push_value.new.out) c.in-Some.ensures c.in-Some-split_data.ensures
      (pushed_true c.in_ok-push_value.field-0 c.push_value.new.out (both (Some (map integer_in c.types.out)) (flat_by (flat_def (shapes_in c.args.program.now) c.args.depth) (type_in c.args.program.now c.in-Some.id) (value_of c.in-Some-split_data.value.now))) c.in_ok-push_value.ensures c.if-not-branch.false) ∙ c.types.invariant.same;
}

pub push_types-returns : goal.push_types-returns
push_types-returns t c = types_done (flat_def (shapes_in c.args.program.now) c.args.depth) (trees_of c.args.program.now.types) c.types.ids.now c.types.values.now c.is_empty.result c.types.out _ c.in_default.ensures c.is_empty.ensures c.types.invariant.same

pub push_value-returns-in-Some : goal.push_value-returns-in-Some
push_value-returns-in-Some t c =
    IfOk-weaker c.push_scalar.result _ _ (λ whole h. ap (λ u. both (Some (map integer_in c.args.out.now)) (flat_by (flat_def (shapes_in c.args.program.now) c.args.depth) u (value_of c.args.value.now))) (scalar_is (type_in c.args.program.now c.args.id) c.in-Some.scalar c.in-Some.ensures) ∙ h)
    (c.push_scalar.ensures (flat_def (shapes_in c.args.program.now) c.args.depth))

pub push_value-returns-in-Ref : goal.push_value-returns-in-Ref
push_value-returns-in-Ref t c =
    flat_ref (flat_def (shapes_in c.args.program.now) c.args.depth) (type_in c.args.program.now c.args.id) (at_id (trees_of c.args.program.now.types) c.in-Ref.field-0) (value_of c.args.value.now) (map integer_in c.args.out.now)
    (c.in-Some-ty.ensures.stands ∙ ap (node (trees_of c.args.program.now.types)) c.in-Ref.is)

pub push_value-returns-in-RefMut : goal.push_value-returns-in-RefMut
push_value-returns-in-RefMut t c =
    flat_ref_mut (flat_def (shapes_in c.args.program.now) c.args.depth) (type_in c.args.program.now c.args.id) (at_id (trees_of c.args.program.now.types) c.in-RefMut.field-0) (value_of c.args.value.now) (map integer_in c.args.out.now)
    (c.in-Some-ty.ensures.stands ∙ ap (node (trees_of c.args.program.now.types)) c.in-RefMut.is)
