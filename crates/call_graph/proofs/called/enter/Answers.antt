use Rattle.std.proofs.Common.{ap, ◌∙◌, subst, List, ◌++◌, map, length, arith}
use Rattle.std.specs.Prelude.{IsTrue}
use Rattle.mir_syntax.specs.declared.types.TyId.{TyId}
use Rattle.mir_syntax.specs.declared.types.Ty.{Ty}
use Rattle.mir_syntax.specs.Table.{ids_below, all_below}
use Rattle.mir_syntax.specs.Tree.{at_id, trees_of, node}
use Rattle.mir_syntax.specs.Crate.{crate_of}
use Rattle.mir_syntax.specs.Shapes.{shapes_of}
use Rattle.mir_syntax.specs.Drops.{fn_number}
use Rattle.mir_syntax.proofs.Trees.{length-trees_of}
use Rattle.call_graph.specs.Callees.{destructors_by, destructors_def}
use Rattle.call_graph.specs.Walk.{part_at, reversed}
use Rattle.call_graph.proofs.Entering.{nothing_entered, tuple_entered, below_more, size_some}
use Rattle.call_graph.proofs.called.enter.Goals as goal

pub returns-in_ok-open_types-in-Tuple-clause-entered : goal.returns-in_ok-open_types-in-Tuple-clause-entered
returns-in_ok-open_types-in-Tuple-clause-entered c =
    let p = c.args.program.now in
    let D = shapes_of (crate_of p) in
    let trees = trees_of p.types in
    let part = c.args.part in
    let long = length-trees_of p.types in
    let is = c.ty.ensures.stands ∙ ap (node trees) c.in-Tuple.is in
    let made : IsTrue (all_below part.ty.0 c.in-Tuple.ids) = subst (λ (t : Ty). IsTrue (ids_below part.ty.0 t)) c.in-Tuple.is c.ty.ensures.made in
    let below = below_more part.ty.0 (length trees) c.in-Tuple.ids (let l = c.requires.in_table in omega (arith, l, long)) made in
    tuple_entered D trees part (map fn_number c.args.found.now.list) c.args.stack.now.items c.open_types.new.stack.items c.in-Tuple.ids is below (c.in_ok-open_types-in-Tuple.ensures ∙ ap (λ (xs : List TyId). c.args.stack.now.items ++ reversed (map (part_at part.depth) xs)) c.as_slice.ensures)

pub returns-in-Scalar-clause-entered : goal.returns-in-Scalar-clause-entered
returns-in-Scalar-clause-entered c =
    let p = c.args.program.now in
    let D = shapes_of (crate_of p) in
    let trees = trees_of p.types in
    let part = c.args.part in
    nothing_entered D trees part (map fn_number c.args.found.now.list) c.args.stack.now.items (ap (destructors_by (destructors_def D part.depth)) (c.ty.ensures.stands ∙ ap (node trees) c.in-Scalar.is)) (size_some D part.depth (at_id trees part.ty))

pub returns-in-Ref-clause-entered : goal.returns-in-Ref-clause-entered
returns-in-Ref-clause-entered c =
    let p = c.args.program.now in
    let D = shapes_of (crate_of p) in
    let trees = trees_of p.types in
    let part = c.args.part in
    nothing_entered D trees part (map fn_number c.args.found.now.list) c.args.stack.now.items (ap (destructors_by (destructors_def D part.depth)) (c.ty.ensures.stands ∙ ap (node trees) c.in-Ref.is)) (size_some D part.depth (at_id trees part.ty))

pub returns-in-RefMut-clause-entered : goal.returns-in-RefMut-clause-entered
returns-in-RefMut-clause-entered c =
    let p = c.args.program.now in
    let D = shapes_of (crate_of p) in
    let trees = trees_of p.types in
    let part = c.args.part in
    nothing_entered D trees part (map fn_number c.args.found.now.list) c.args.stack.now.items (ap (destructors_by (destructors_def D part.depth)) (c.ty.ensures.stands ∙ ap (node trees) c.in-RefMut.is)) (size_some D part.depth (at_id trees part.ty))
