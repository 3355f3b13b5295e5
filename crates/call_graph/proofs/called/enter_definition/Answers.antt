use Rattle.std.proofs.Common.{◌≡◌, refl, sym, ap, ap₂, ◌∙◌, subst, ℕ, ◌+◌, ◌-◌, ◌++◌, map, length, suc, List, Option, Some, slice_get, arith}
use Rattle.std.specs.Prelude.{IsTrue, option_to_list}
use Rattle.std.specs.List.{list_all}
use Rattle.mir_syntax.specs.declared.types.Variant.{Variant}
use Rattle.mir_syntax.specs.Tree.{Tree, at_id, trees_of}
use Rattle.mir_syntax.specs.Ids.{def_below, variant_below}
use Rattle.mir_syntax.specs.Crate.{crate_of, def_of}
use Rattle.mir_syntax.specs.Shapes.{shapes_of, shape_of}
use Rattle.mir_syntax.specs.Drops.{fn_number}
use Rattle.mir_syntax.proofs.Trees.{length-trees_of}
use Rattle.mir_syntax.proofs.InTable.{all-at}
use Rattle.mir_syntax.proofs.Places.{shape-at, shape-past}
use Rattle.call_graph.specs.Callees.{destructors_by, destructors_def}
use Rattle.bit_rows.specs.Rows.{row_at}
use Rattle.call_graph.specs.Walk.{all_added, part_at, reversed, types_in}
use Rattle.call_graph.proofs.Entering.{nothing_entered, definition_entered, variants_below, size_some, own_destructor_is, none_defined, own_below}
use Rattle.call_graph.proofs.called.enter_definition.Goals as goal

pub returns-then-part-eq0-clause-entered : goal.returns-then-part-eq0-clause-entered
returns-then-part-eq0-clause-entered c =
    let p = c.args.program.now in
    let D = shapes_of (crate_of p) in
    let trees = trees_of p.types in
    let part = c.args.part in
    nothing_entered D trees part (map fn_number c.args.found.now.list) c.args.stack.now.items (ap₂ (λ (k : ℕ) (t : Tree). destructors_by (destructors_def D k) t) c.if-part-eq0.true c.requires.is) (size_some D part.depth (at_id trees part.ty))

pub returns-in_default-clause-entered : goal.returns-in_default-clause-entered
returns-in_default-clause-entered c =
    let p = c.args.program.now in
    let D = shapes_of (crate_of p) in
    let trees = trees_of p.types in
    let part = c.args.part in
    let past = shape-past p c.args.def (sym c.in_default.ensures) in
    nothing_entered D trees part (map fn_number c.args.found.now.list) c.args.stack.now.items (none_defined D part.depth (at_id trees part.ty) c.args.def c.requires.is past) (size_some D part.depth (at_id trees part.ty))

pub add_own-requires-clause-inside : goal.add_own-requires-clause-inside
add_own-requires-clause-inside c =
    let p = c.args.program.now in
    let D = shapes_of (crate_of p) in
    let trees = trees_of p.types in
    let part = c.args.part in
    let def = c.in-Some.definition.now in
    let s = shape_of (crate_of p).functions (0 + c.args.def) (def_of trees def) in
    let here : slice_get D c.args.def ≡ Some s = shape-at p c.args.def def (sym c.in-Some.ensures) in
    own_below D (length (row_at c.args.found.now.marks 0)) part.depth (at_id trees part.ty) c.args.def s c.requires.is here c.if-part-eq0.false c.requires.inside

pub returns-clause-entered : goal.returns-clause-entered
returns-clause-entered c =
    let p = c.args.program.now in
    let D = shapes_of (crate_of p) in
    let trees = trees_of p.types in
    let part = c.args.part in
    let def = c.in-Some.definition.now in
    let s = shape_of (crate_of p).functions (0 + c.args.def) (def_of trees def) in
    let there : slice_get p.defs c.args.def ≡ Some def = sym c.in-Some.ensures in
    let here : slice_get D c.args.def ≡ Some s = shape-at p c.args.def def there in
    let long = length-trees_of p.types in
    let inside : IsTrue (list_all (variant_below (length p.types)) def.variants) = all-at (def_below (length p.types)) p.defs c.args.def def c.requires.ids.defs there in
    let below = variants_below (length trees) def.variants (subst (λ n. IsTrue (list_all (variant_below n) def.variants)) (sym long) inside) in
    definition_entered D trees part (map fn_number c.args.found.now.list) c.args.stack.now.items (map fn_number c.add_own.new.found.list) c.open_variants.new.stack.items c.args.def (part.depth - 1) s def.variants c.requires.is (let z : part.depth ≡ suc (part.depth - 1) = (let e = c.if-part-eq0.false in omega (arith, e)) in z) here refl below
    (c.in_ok-add_own.ensures.list ∙ ap (λ (o : Option ℕ). all_added (map fn_number c.args.found.now.list) (option_to_list o)) (own_destructor_is D (at_id trees part.ty) c.args.def s c.requires.is here))
    (c.in_ok-open_variants.ensures ∙ ap (λ (xs : List Variant). c.args.stack.now.items ++ reversed (map (part_at (part.depth - 1)) (types_in xs))) c.as_slice.ensures)
