use Rattle.std.proofs.Common.{◌∙◌, ◌-◌, sym, ap, map}
use Rattle.std.proofs.lemmas.Result.{IfOk-weaker}
use Rattle.mir_syntax.specs.Tree.{trees_of}
use Rattle.mir_syntax.specs.Crate.{variant_of}
use Rattle.mir_syntax.specs.Shapes.{fields_tuple, first_variant}
use Rattle.mir_meaning.specs.Programs.{shapes_in}
use Rattle.mir_entry.specs.Readings.{read_by, read_def, integers_of}
use Rattle.mir_entry.proofs.Variants.{read_past, read_enum, read_struct, fields_pushed, ids_pushed, fields_done, ids_done, below_rest}
use Rattle.mir_entry.proofs.reads.+read.Goals as goal

pub read_fields-fields-preserved : goal.read_fields-fields-preserved
read_fields-fields-preserved t c =
    fields_pushed (read_def (shapes_in c.args.program.now) c.args.depth) (trees_of c.args.program.now.types) c.fields.fields.now c.in-Some.others.now c.in-Some.field.now c.fields.values c.push.new.self c.in-Some-2.value (integers_of c.fields.numbers.now) (integers_of c.in-Some-2.rest.now)
    c.in-Some.ensures (rw c.in-Some-2.is at c.in_ok-value.ensures) c.in_ok-push-in-Some-2.ensures.ok
    ∙ c.fields.invariant

pub read_fields-returns : goal.read_fields-returns
read_fields-returns t c =
    fields_done (read_def (shapes_in c.args.program.now) c.args.depth) (trees_of c.args.program.now.types) c.fields.fields.now c.fields.values (integers_of c.fields.numbers.now) _ c.in_default.ensures c.fields.invariant

pub read_types-types-preserved : goal.read_types-types-preserved
read_types-types-preserved t c = record {
  below = below_rest c.args.bound c.types.ids.now c.in-Some.others.now c.in-Some.id c.in-Some.ensures c.types.invariant.below;
  same =
      ids_pushed (read_def (shapes_in c.args.program.now) c.args.depth) (trees_of c.args.program.now.types) c.types.ids.now c.in-Some.others.now c.in-Some.id c.types.values c.push.new.self c.in-Some-2.value (integers_of c.types.numbers.now) (integers_of c.in-Some-2.rest.now)
      c.in-Some.ensures (rw c.in-Some-2.is at c.in_ok-value.ensures) c.in_ok-push-in-Some-2.ensures.ok
      ∙ c.types.invariant.same;
}

pub read_types-returns : goal.read_types-returns
read_types-returns t c =
    ids_done (read_def (shapes_in c.args.program.now) c.args.depth) (trees_of c.args.program.now.types) c.types.ids.now c.types.values (integers_of c.types.numbers.now) _ c.in_default.ensures c.types.invariant.same

pub read_named-returns-then-def : goal.read_named-returns-then-def
read_named-returns-then-def t c =
    let p = c.args.program.now in
    IfOk-weaker c.read_variant.result _ _ (λ found h. h ∙ read_enum p c.args.depth c.args.def c.in-Some.def.now (integers_of c.args.numbers.now) c.if-depth-eq0.false (sym c.in-Some.ensures) c.if-def.true) c.read_variant.ensures

pub read_named-returns-else-def : goal.read_named-returns-else-def
read_named-returns-else-def t c =
    let p = c.args.program.now in
    IfOk-weaker c.read_struct.result _ _ (λ found h. h ∙ ap (λ vs. read_by (read_def (shapes_in p) (c.args.depth - 1)) (first_variant (map fields_tuple (map (variant_of (trees_of p.types)) vs))) (integers_of c.args.numbers.now)) c.as_slice-variants.ensures
    ∙ read_struct p c.args.depth c.args.def c.in-Some.def.now (integers_of c.args.numbers.now) c.if-depth-eq0.false (sym c.in-Some.ensures) c.if-def.false) c.read_struct.ensures

pub read_named-returns-in-None : goal.read_named-returns-in-None
read_named-returns-in-None t c = read_past c.args.program.now c.args.depth c.args.def (integers_of c.args.numbers.now) (sym c.in-None.ensures)
