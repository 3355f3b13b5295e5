use Rattle.std.proofs.Common.{◌≡◌, ◌≤◌, ap, ◌∙◌, sym, subst, [], Some, None, OnOk, length, get_or, arith}
use Rattle.std.proofs.lemmas.Option.{slice_get_past}
use Rattle.mir_syntax.specs.Tree.{Tree, at_id, at_ids, trees_of, node}
use Rattle.mir_syntax.specs.Crate.{crate_of}
use Rattle.mir_syntax.specs.Shapes.{shapes_of, fields_tree}
use Rattle.mir_syntax.specs.declared.types.Field.{Field as StructField}
use Rattle.mir_syntax.proofs.Lists.{id_below}
use Rattle.mir_syntax.proofs.Places.{at_id-past}
use Rattle.place_map.specs.Tracked.{scalars_by, scalars_def}
use Rattle.place_map.specs.Finding.{Gathers}
use Rattle.place_map.proofs.Gathering.{some_id, some_field, tuple_scalars}
use Rattle.place_map.proofs.scalars.+find.Goals as goal

pub find_in_tuple-find_scalars-requires : goal.find_in_tuple-find_scalars-requires
find_in_tuple-find_scalars-requires t c = (
  omega (arith, c.decreases, c.loop-index-test.true, id_below c.args.bound c.args.ids.now c.loop-index.index (record { 0 = 0 }) c.requires.below c.loop-index-test.true),
  (let few = c.loop-index.invariant.few in let most = c.enter.ensures.most in let same = c.loop-index.invariant.same_most in let places = ap length c.enter.ensures.places in omega arith),
)

pub find_in_tuple-loop-index-preserved : goal.find_in_tuple-loop-index-preserved
find_in_tuple-loop-index-preserved t c =
    let p = c.args.program.now in
    let trees = trees_of p.types in
    let f = scalars_def (shapes_of (crate_of p)) c.args.depth in
    some_id f trees c.args.found.now c.loop-index.found c.enter.new.self c.find_scalars.new.found c.pop.new.self c.loop-index.index c.pop.result (c.enter.ensures.most, (c.enter.ensures.local, (c.enter.ensures.places, c.in_ok-enter.ensures.path))) c.pop.ensures c.args.ids.now (record { 0 = 0 })
    (scalars_by f (Some 0) (at_ids trees c.args.ids.now)) (omega (arith, c.loop-index-test.true)) c.loop-index.invariant c.in_ok-find_scalars.ensures

pub find_in_fields-loop-index-preserved : goal.find_in_fields-loop-index-preserved
find_in_fields-loop-index-preserved t c =
    let p = c.args.program.now in
    let trees = trees_of p.types in
    let f = scalars_def (shapes_of (crate_of p)) c.args.depth in
    let item = c.index-fields-index.result in
    let found : Gathers c.enter.new.self c.find_scalars.new.found [] (scalars_by f None (at_id trees (get_or c.args.fields.now c.loop-index.index item).ty)) = subst (λ (x : StructField). Gathers c.enter.new.self c.find_scalars.new.found [] (scalars_by f None (at_id trees x.ty))) c.index-fields-index.is c.in_ok-find_scalars.ensures in
    some_field f trees c.args.found.now c.loop-index.found c.enter.new.self c.find_scalars.new.found c.pop.new.self c.loop-index.index c.pop.result (c.enter.ensures.most, (c.enter.ensures.local, (c.enter.ensures.places, c.in_ok-enter.ensures.path))) c.pop.ensures c.args.fields.now item
    (scalars_by f (Some 0) (fields_tree trees c.args.fields.now)) (omega (arith, c.loop-index-test.true)) c.loop-index.invariant found

pub find_scalars-returns-then-types-id : goal.find_scalars-returns-then-types-id
find_scalars-returns-then-types-id t c =
    let p = c.args.program.now in
    let f = scalars_def (shapes_of (crate_of p)) c.args.depth in
    let past : length p.types ≤ c.args.id.0 = omega (arith, c.types.ensures, c.if-types-id.true) in
    subst (λ (t : Tree). OnOk c.keep.result (Gathers c.args.found.now c.keep.new.self [] (scalars_by f None t))) (sym (at_id-past p.types c.args.id (slice_get_past p.types c.args.id.0 past))) c.keep.ensures

pub find_scalars-returns-in-Tuple : goal.find_scalars-returns-in-Tuple
find_scalars-returns-in-Tuple t c =
    let p = c.args.program.now in
    let trees = trees_of p.types in
    let f = scalars_def (shapes_of (crate_of p)) c.args.depth in
    let ids = c.in-Tuple.ids in
    let is : at_id trees c.args.id ≡ at_ids trees ids = c.ty.ensures.stands ∙ ap (node trees) c.in-Tuple.is in
    let slice : at_ids trees c.as_slice.result.now ≡ at_ids trees ids = ap (at_ids trees) c.as_slice.ensures in
    subst (λ ws. OnOk c.find_in_tuple.result (Gathers c.args.found.now c.find_in_tuple.new.found [] ws)) (ap (scalars_by f (Some 0)) slice ∙ tuple_scalars f trees ids ∙ ap (scalars_by f None) (sym is)) c.find_in_tuple.ensures
