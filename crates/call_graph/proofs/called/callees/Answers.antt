use Rattle.std.proofs.Common.{refl, sym, ap, ◌∙◌, subst, [], ℕ, map, length, get_or, arith}
use Rattle.std.specs.List.{flat_map}
use Rattle.std.proofs.lemmas.List.{take_all}
use Rattle.mir_syntax.specs.declared.body.Block.{Block}
use Rattle.mir_syntax.specs.Tree.{trees_of}
use Rattle.mir_syntax.specs.Crate.{crate_of, body_of, block_of}
use Rattle.mir_syntax.specs.Shapes.{shapes_of}
use Rattle.mir_syntax.specs.Drops.{fn_number}
use Rattle.call_graph.specs.Callees.{called_in, callees}
use Rattle.call_graph.specs.Walk.{all_added}
use Rattle.call_graph.proofs.Entering.{Below}
use Rattle.call_graph.proofs.Listed.{once_is, block_inside, block_more}
use Rattle.call_graph.proofs.called.callees.Goals as goal

pub add_called-requires-clause-inside : goal.add_called-requires-clause-inside
add_called-requires-clause-inside c =
    let p = c.args.program.now in
    let trees = trees_of p.types in
    let locals = (body_of trees c.args.body.now).locals in
    let f = called_in (shapes_of (crate_of p)) locals in
    let item = c.block-item.result in
    let i = c.loop-block.block-index in
    let e = c.as_slice-block-items.ensures in
    let long = ap (λ xs. length xs) e in
    let here = c.block-item.is ∙ ap (λ xs. get_or xs i item) e in
    let all = block_inside f (block_of trees) c.args.body.now.blocks i (length p.functions) item (let t = c.loop-block-test.true in omega (arith, t, long)) c.requires.inside in
    subst (λ (n : ℕ). Below n (f (block_of trees item))) (sym c.loop-block.invariant.1) (subst (λ (b : Block). Below (length p.functions) (f (block_of trees b))) (sym here) all)

pub loop-block-preserved : goal.loop-block-preserved
loop-block-preserved c =
    let p = c.args.program.now in
    let trees = trees_of p.types in
    let locals = (body_of trees c.args.body.now).locals in
    let f = called_in (shapes_of (crate_of p)) locals in
    let item = c.block-item.result in
    let i = c.loop-block.block-index in
    let e = c.as_slice-block-items.ensures in
    let long = ap (λ xs. length xs) e in
    let here = c.block-item.is ∙ ap (λ xs. get_or xs i item) e in (
      block_more f (block_of trees) c.args.body.now.blocks i item (map fn_number c.loop-block.found.list) (map fn_number c.add_called.new.found.list) (let t = c.loop-block-test.true in omega (arith, t, long)) c.loop-block.invariant.0
          (c.in_ok-add_called.ensures.list ∙ ap (λ (b : Block). all_added (map fn_number c.loop-block.found.list) (f (block_of trees b))) here),
      c.in_ok-add_called.ensures.size ∙ c.loop-block.invariant.1,
    )

pub returns : goal.returns
unfolding callees
returns c =
    let p = c.args.program.now in
    let trees = trees_of p.types in
    let locals = (body_of trees c.args.body.now).locals in
    let f = called_in (shapes_of (crate_of p)) locals in
    let long = ap (λ xs. length xs) c.as_slice-block-items.ensures in
    ap (map fn_number) c.into_list.ensures ∙ c.loop-block.invariant.0
    ∙ ap (λ bs. all_added [] (flat_map f (map (block_of trees) bs))) (take_all c.loop-block.block-index c.args.body.now.blocks (let t = c.loop-block-test.false in omega (arith, t, long)))
    ∙ once_is [] [] (flat_map f (map (block_of trees) c.args.body.now.blocks)) (λ y. refl)
