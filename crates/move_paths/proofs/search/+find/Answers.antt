use Rattle.std.proofs.Common.{◌≡◌, ◌-◌, ap, ◌∙◌, sym, subst, suc, [], Some, None, true, false, is_some, OnOk, length, get_or, arith}
use Rattle.mir_syntax.specs.Tree.{named, at_id, at_ids, trees_of}
use Rattle.mir_syntax.specs.Crate.{crate_of}
use Rattle.mir_syntax.specs.Shapes.{shapes_of, fields_tree, destructor_of, fields_of, needs_drop}
use Rattle.mir_syntax.specs.Drops.{fn_number}
use Rattle.mir_syntax.specs.declared.types.Field.{Field as StructField}
use Rattle.mir_syntax.proofs.Lists.{id_below}
use Rattle.mir_rules.specs.Weights.{one_unit, units_from, units_def}
use Rattle.move_paths.specs.Finding.{Gathers}
use Rattle.move_paths.proofs.Gathering.{gathers_all, some_id, some_field}
use Rattle.move_paths.proofs.Definitions.{some_mapped, units_destroyed, units_struct, units_enum}
use Rattle.move_paths.proofs.search.+find.Goals as goal

pub find_in_definition-returns-then-is_some : goal.find_in_definition-returns-then-is_some
find_in_definition-returns-then-is_some t c =
    let p = c.args.program.now in
    let D = shapes_of (crate_of p) in
    let d = c.args.def in
    let n = c.args.depth - 1 in
    let depth : c.args.depth ≡ suc n = omega (arith, c.if-depth-eq0.false) in
    let has : is_some (destructor_of D (named d)) ≡ true = ap is_some (ap (destructor_of D) (sym c.requires.is) ∙ sym c.destructor.ensures) ∙ some_mapped fn_number c.destructor.result ∙ sym c.is_some.ensures ∙ c.if-is_some.true in
    subst (λ ws. OnOk c.keep.result (Gathers c.args.search.now c.keep.new.self [] ws)) (sym (ap (λ m. units_def D m d) depth ∙ units_destroyed D n d has)) c.keep.ensures

pub find_in_definition-returns-in-Some : goal.find_in_definition-returns-in-Some
find_in_definition-returns-in-Some t c =
    let p = c.args.program.now in
    let D = shapes_of (crate_of p) in
    let d = c.args.def in
    let n = c.args.depth - 1 in
    let fields = fields_tree (trees_of p.types) c.in-Some.fields.now in
    let depth : c.args.depth ≡ suc n = omega (arith, c.if-depth-eq0.false) in
    let none : is_some (destructor_of D (named d)) ≡ false = ap is_some (ap (destructor_of D) (sym c.requires.is) ∙ sym c.destructor.ensures) ∙ some_mapped fn_number c.destructor.result ∙ sym c.is_some.ensures ∙ c.if-is_some.false in
    subst (λ ws. OnOk c.find_in_fields.result (Gathers c.args.search.now c.find_in_fields.new.search [] ws)) (sym (ap (λ m. units_def D m d) depth ∙ units_struct D n d fields none (sym c.in-Some.ensures.fields))) c.find_in_fields.ensures

pub find_in_definition-returns-then-needs_drop : goal.find_in_definition-returns-then-needs_drop
find_in_definition-returns-then-needs_drop t c =
    let p = c.args.program.now in
    let D = shapes_of (crate_of p) in
    let d = c.args.def in
    let n = c.args.depth - 1 in
    let depth : c.args.depth ≡ suc n = omega (arith, c.if-depth-eq0.false) in
    let none : is_some (destructor_of D (named d)) ≡ false = ap is_some (ap (destructor_of D) (sym c.requires.is) ∙ sym c.destructor.ensures) ∙ some_mapped fn_number c.destructor.result ∙ sym c.is_some.ensures ∙ c.if-is_some.false in
    let needs : needs_drop D (named d) ≡ true = ap (needs_drop D) (sym c.requires.is) ∙ sym c.needs_drop.ensures ∙ c.if-needs_drop.true in
    subst (λ ws. OnOk c.keep-then-needs_drop.result (Gathers c.args.search.now c.keep-then-needs_drop.new.self [] ws)) (sym (ap (λ m. units_def D m d) depth ∙ units_enum D n d none (sym c.in_default.ensures.fields) ∙ ap one_unit needs)) c.keep-then-needs_drop.ensures

pub find_in_definition-returns : goal.find_in_definition-returns
find_in_definition-returns t c =
    let p = c.args.program.now in
    let D = shapes_of (crate_of p) in
    let d = c.args.def in
    let n = c.args.depth - 1 in
    let depth : c.args.depth ≡ suc n = omega (arith, c.if-depth-eq0.false) in
    let none : is_some (destructor_of D (named d)) ≡ false = ap is_some (ap (destructor_of D) (sym c.requires.is) ∙ sym c.destructor.ensures) ∙ some_mapped fn_number c.destructor.result ∙ sym c.is_some.ensures ∙ c.if-is_some.false in
    let needs : needs_drop D (named d) ≡ false = ap (needs_drop D) (sym c.requires.is) ∙ sym c.needs_drop.ensures ∙ c.if-needs_drop.false in
    subst (λ ws. Gathers c.args.search.now c.args.search.now [] ws) (sym (ap (λ m. units_def D m d) depth ∙ units_enum D n d none (sym c.in_default.ensures.fields) ∙ ap one_unit needs)) (gathers_all c.args.search.now [])

pub find_in_tuple-find_units-requires : goal.find_in_tuple-find_units-requires
find_in_tuple-find_units-requires t c =
    let low = id_below c.args.bound c.args.ids.now c.loop-index.index (record { 0 = 0 }) c.requires.below c.loop-index-test.true in
    (omega (arith, c.decreases, c.loop-index-test.true, low), (c.requires.knows, (c.requires.ids, omega (arith, low, c.requires.in_table))))

pub find_in_tuple-loop-index-preserved : goal.find_in_tuple-loop-index-preserved
find_in_tuple-loop-index-preserved t c =
    let p = c.args.program.now in
    let trees = trees_of p.types in
    let f = units_def (shapes_of (crate_of p)) c.args.depth in
    some_id f trees c.args.search.now c.loop-index.search c.enter.new.self c.find_units.new.search c.pop.new.self c.loop-index.index c.pop.result (c.enter.ensures.local, (c.enter.ensures.places, c.in_ok-enter.ensures.path)) c.pop.ensures c.args.ids.now (record { 0 = 0 })
    (units_from f 0 (at_ids trees c.args.ids.now)) (omega (arith, c.loop-index-test.true)) c.loop-index.invariant c.in_ok-find_units.ensures

pub find_in_fields-loop-index-preserved : goal.find_in_fields-loop-index-preserved
find_in_fields-loop-index-preserved t c =
    let p = c.args.program.now in
    let trees = trees_of p.types in
    let f = units_def (shapes_of (crate_of p)) c.args.depth in
    let item = c.index-fields-index.result in
    let found : Gathers c.enter.new.self c.find_units.new.search [] (units_from f 0 (at_id trees (get_or c.args.fields.now c.loop-index.index item).ty)) = subst (λ (x : StructField). Gathers c.enter.new.self c.find_units.new.search [] (units_from f 0 (at_id trees x.ty))) c.index-fields-index.is c.in_ok-find_units.ensures in
    some_field f trees c.args.search.now c.loop-index.search c.enter.new.self c.find_units.new.search c.pop.new.self c.loop-index.index c.pop.result (c.enter.ensures.local, (c.enter.ensures.places, c.in_ok-enter.ensures.path)) c.pop.ensures c.args.fields.now item
    (units_from f 0 (fields_tree trees c.args.fields.now)) (omega (arith, c.loop-index-test.true)) c.loop-index.invariant found
