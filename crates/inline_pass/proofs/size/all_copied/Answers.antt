use Rattle.std.proofs.Common.{◌-◌, ◌^◌, ap, ◌∙◌, map, arith}
use Rattle.std.specs.Prelude.{sum_by}
use Rattle.std.proofs.lemmas.List.{take_all}
use Rattle.mir_syntax.specs.declared.body.Block.{Block}
use Rattle.mir_syntax.specs.Crate.{block_of}
use Rattle.mir_syntax.proofs.Flat.{block_there}
use Rattle.inline_pass.specs.Code.{capped, copied_in}
use Rattle.call_graph.proofs.Sums.{sum_more}
use Rattle.inline_pass.proofs.size.all_copied.Goals as goal

pub loop-block-preserved : goal.loop-block-preserved
loop-block-preserved c =
    λ trees.
    let blocks = c.args.callee.now.blocks in
    let i = c.loop-block.block in
    let k : Block = record { stmts = c.stmts.result.now; term = c.term.result.now } in
    let there = block_there blocks i c.stmts.result.now c.term.result.now c.stmts.ensures c.term.ensures in
    c.saturating_add-total.ensures
    ∙ sum_more copied_in (block_of trees) blocks i k (2 ^ 64 - 1) c.loop-block.total c.copied.result there.0 (c.loop-block.invariant trees)
    (c.copied.ensures trees ∙ ap (λ (b : Block). capped (copied_in (block_of trees b))) there.1)

pub returns : goal.returns
returns c = λ trees. c.loop-block.invariant trees ∙ ap (λ xs. capped (sum_by copied_in (map (block_of trees) xs))) (take_all c.loop-block.block c.args.callee.now.blocks (let e = c.loop-block-test.false in let m = c.blocks-block-end.ensures in omega (arith, e, m)))
