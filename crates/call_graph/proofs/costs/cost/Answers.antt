use Rattle.std.proofs.Common.{◌-◌, ◌^◌, List, length, min, ap, ◌∙◌, map, get_or, arith}
use Rattle.std.specs.Prelude.{sum_by}
use Rattle.std.proofs.lemmas.List.{take_all}
use Rattle.mir_syntax.specs.declared.body.Block.{Block}
use Rattle.mir_syntax.specs.declared.body.Stmt.{Stmt}
use Rattle.mir_syntax.specs.Crate.{block_of}
use Rattle.call_graph.specs.Cost.{block_cost, cost}
use Rattle.call_graph.proofs.Sums.{sum_more}
use Rattle.call_graph.proofs.costs.cost.Goals as goal

pub loop-block-preserved : goal.loop-block-preserved
loop-block-preserved c =
    λ trees.
    let i = c.loop-block.block-index in
    let item = c.block-item.result in
    c.saturating_add-total.ensures
    ∙ sum_more block_cost (block_of trees) c.args.body.now.blocks i item (2 ^ 64 - 1) c.loop-block.total c.block_cost.result (let e = c.loop-block-test.true in let f = ap (λ xs. length xs) c.as_slice-block-items.ensures in omega (arith, e, f)) (c.loop-block.invariant trees)
    (c.block_cost.ensures trees
    ∙ ap (λ (ss : List Stmt). min (block_cost (block_of trees (record { stmts = ss; term = item.term }))) (2 ^ 64 - 1)) c.as_slice.ensures
    ∙ ap (λ (b : Block). min (block_cost (block_of trees b)) (2 ^ 64 - 1)) (c.block-item.is ∙ ap (λ xs. get_or xs i item) c.as_slice-block-items.ensures))

pub returns : goal.returns
unfolding cost
returns c = λ trees. c.loop-block.invariant trees ∙ ap (λ xs. min (sum_by block_cost (map (block_of trees) xs)) (2 ^ 64 - 1)) (take_all c.loop-block.block-index c.args.body.now.blocks (let e = c.loop-block-test.false in let f = ap (λ xs. length xs) c.as_slice-block-items.ensures in omega (arith, e, f)))
