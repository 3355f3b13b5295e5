use Rattle.std.proofs.Common.{◌-◌, ◌^◌, min, ap, ◌∙◌, map, arith}
use Rattle.std.specs.Prelude.{sum_by}
use Rattle.std.proofs.lemmas.List.{take_all}
use Rattle.mir_syntax.specs.declared.body.Block.{Block}
use Rattle.mir_syntax.specs.Crate.{block_of}
use Rattle.mir_syntax.proofs.Flat.{block_there}
use Rattle.call_graph.specs.Cost.{block_cost, cost}
use Rattle.call_graph.proofs.Sums.{sum_more}
use Rattle.call_graph.proofs.costs.cost_flat.Goals as goal

pub loop-block-preserved : goal.loop-block-preserved
loop-block-preserved c =
    λ trees.
    let blocks = c.args.body.now.blocks in
    let i = c.loop-block.block in
    let k : Block = record { stmts = c.stmts.result.now; term = c.term.result.now } in
    let there = block_there blocks i c.stmts.result.now c.term.result.now c.stmts.ensures c.term.ensures in
    c.saturating_add-total.ensures
    ∙ sum_more block_cost (block_of trees) blocks i k (2 ^ 64 - 1) c.loop-block.total c.block_cost.result there.0 (c.loop-block.invariant trees)
    (c.block_cost.ensures trees ∙ ap (λ (b : Block). min (block_cost (block_of trees b)) (2 ^ 64 - 1)) there.1)

pub returns : goal.returns
unfolding cost
returns c = λ trees. c.loop-block.invariant trees ∙ ap (λ xs. min (sum_by block_cost (map (block_of trees) xs)) (2 ^ 64 - 1)) (take_all c.loop-block.block c.args.body.now.blocks (let e = c.loop-block-test.false in let m = c.blocks-block-end.ensures in omega (arith, e, m)))
