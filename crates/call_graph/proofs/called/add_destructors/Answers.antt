use Rattle.std.proofs.Common.{◌≡◌, refl, sym, ap, ◌∙◌, subst, ◌++◌, ◌∷◌, [], ℕ, List, map, length, arith}
use Rattle.bit_rows.specs.Rows.{row_at}
use Rattle.mir_syntax.specs.Tree.{at_id, trees_of}
use Rattle.mir_syntax.specs.Crate.{crate_of}
use Rattle.mir_syntax.specs.Shapes.{shapes_of}
use Rattle.mir_syntax.specs.Drops.{fn_number}
use Rattle.mir_syntax.proofs.Trees.{length-trees_of}
use Rattle.call_graph.specs.declared.parts.Part.{Part}
use Rattle.call_graph.specs.Callees.{destructors_in}
use Rattle.call_graph.specs.Walk.{destructors_at}
use Rattle.call_graph.proofs.Entering.{Below, part_open, part_inside, skipped, skipped_less, went, went_less, walk_begins, shapes_many}
use Rattle.call_graph.proofs.called.add_destructors.Goals as goal

pub loop-part-init : goal.loop-part-init
loop-part-init c =
    let p = c.args.program.now in
    let D = shapes_of (crate_of p) in
    let trees = trees_of p.types in
    let id = c.args.ty in
    let long = length-trees_of p.types in
    let depth : c.len-depth.result ≡ length D = c.len-depth.ensures ∙ sym (shapes_many p) in
    let e : c.push.new.self.items ≡ record { ty = id; depth = length D } ∷ [] = c.in_ok-push.ensures.items ∙ ap (λ xs. xs ++ record { ty = id; depth = c.len-depth.result } ∷ []) c.new-stack.ensures.items ∙ ap (λ (n : ℕ). let one : List Part = record { ty = id; depth = n } ∷ [] in one) depth in
    (walk_begins D trees (length (row_at c.args.found.now.marks 0)) (map fn_number c.args.found.now.list) c.push.new.self.items id e (let l = c.requires.in_table in omega (arith, l, long)) c.requires.inside, refl)

pub needs_drop-requires-clause-in_table : goal.needs_drop-requires-clause-in_table
needs_drop-requires-clause-in_table c =
    let p = c.args.program.now in
    let D = shapes_of (crate_of p) in
    let trees = trees_of p.types in
    let long = length-trees_of p.types in
    let l = (part_open D trees (length (row_at c.args.found.now.marks 0)) (map fn_number c.args.found.now.list) (destructors_in D (at_id trees c.args.ty)) (map fn_number c.loop-part.found.list) c.loop-part.stack.items c.pop.new.self.items c.in-Some.part c.loop-part.invariant.0 c.in-Some.ensures.items).in_table in
    omega (arith, l, long)

pub enter-requires-clause-in_table : goal.enter-requires-clause-in_table
enter-requires-clause-in_table c =
    let p = c.args.program.now in
    let D = shapes_of (crate_of p) in
    let trees = trees_of p.types in
    let long = length-trees_of p.types in
    let l = (part_open D trees (length (row_at c.args.found.now.marks 0)) (map fn_number c.args.found.now.list) (destructors_in D (at_id trees c.args.ty)) (map fn_number c.loop-part.found.list) c.loop-part.stack.items c.pop.new.self.items c.in-Some.part c.loop-part.invariant.0 c.in-Some.ensures.items).in_table in
    omega (arith, l, long)

pub enter-requires-clause-inside : goal.enter-requires-clause-inside
enter-requires-clause-inside c =
    let p = c.args.program.now in
    let D = shapes_of (crate_of p) in
    let trees = trees_of p.types in
    subst (λ (n : ℕ). Below n (destructors_at D trees c.in-Some.part)) (sym c.loop-part.invariant.1)
    (part_inside D trees (length (row_at c.args.found.now.marks 0)) (map fn_number c.args.found.now.list) (destructors_in D (at_id trees c.args.ty)) (map fn_number c.loop-part.found.list) c.loop-part.stack.items c.pop.new.self.items c.in-Some.part c.loop-part.invariant.0 c.in-Some.ensures.items)

pub loop-part-smaller-in-Continue-branch-2 : goal.loop-part-smaller-in-Continue-branch-2
loop-part-smaller-in-Continue-branch-2 c =
    let p = c.args.program.now in
    let D = shapes_of (crate_of p) in
    let trees = trees_of p.types in
    went_less D trees (length (row_at c.args.found.now.marks 0)) (map fn_number c.args.found.now.list) (destructors_in D (at_id trees c.args.ty)) (map fn_number c.loop-part.found.list) c.loop-part.stack.items c.pop.new.self.items c.in-Some.part c.loop-part.invariant.0 c.in-Some.ensures.items (map fn_number c.enter.new.found.list) c.enter.new.stack.items c.in_ok-enter.ensures.entered

pub loop-part-preserved-in-Continue-branch-2 : goal.loop-part-preserved-in-Continue-branch-2
loop-part-preserved-in-Continue-branch-2 c =
    let p = c.args.program.now in
    let D = shapes_of (crate_of p) in
    let trees = trees_of p.types in
    (went D trees (length (row_at c.args.found.now.marks 0)) (map fn_number c.args.found.now.list) (destructors_in D (at_id trees c.args.ty)) (map fn_number c.loop-part.found.list) c.loop-part.stack.items c.pop.new.self.items c.in-Some.part c.loop-part.invariant.0 c.in-Some.ensures.items (map fn_number c.enter.new.found.list) c.enter.new.stack.items c.in_ok-enter.ensures.entered, c.in_ok-enter.ensures.size ∙ c.loop-part.invariant.1)

pub loop-part-smaller : goal.loop-part-smaller
loop-part-smaller c =
    let p = c.args.program.now in
    let D = shapes_of (crate_of p) in
    let trees = trees_of p.types in
    skipped_less D trees (length (row_at c.args.found.now.marks 0)) (map fn_number c.args.found.now.list) (destructors_in D (at_id trees c.args.ty)) (map fn_number c.loop-part.found.list) c.loop-part.stack.items c.pop.new.self.items c.in-Some.part c.loop-part.invariant.0 c.in-Some.ensures.items

pub loop-part-preserved : goal.loop-part-preserved
loop-part-preserved c =
    let p = c.args.program.now in
    let D = shapes_of (crate_of p) in
    let trees = trees_of p.types in
    (skipped D trees (length (row_at c.args.found.now.marks 0)) (map fn_number c.args.found.now.list) (destructors_in D (at_id trees c.args.ty)) (map fn_number c.loop-part.found.list) c.loop-part.stack.items c.pop.new.self.items c.in-Some.part c.loop-part.invariant.0 c.in-Some.ensures.items (sym c.needs_drop.ensures ∙ c.if-needs_drop.false), c.loop-part.invariant.1)
