use Rattle.std.proofs.Common.{◌++◌, ap, ◌∙◌, map, arith}
use Rattle.std.proofs.lemmas.List.{take_all}
use Rattle.mir_syntax.specs.declared.body.Block.{Block}
use Rattle.mir_syntax.proofs.Flat.{block_there}
use Rattle.inline_pass.specs.Code.{bare_block}
use Rattle.inline_pass.proofs.equal.Copied.{pushed_more}
use Rattle.inline_pass.proofs.call.copy_blocks.Goals as goal

pub loop-block-preserved : goal.loop-block-preserved
loop-block-preserved c =
    let f = bare_block c.args.behind.locals c.args.behind.blocks c.args.dest.now c.args.next in
    let k : Block = record { stmts = c.stmts-stmts.result.now; term = c.term-term.result.now } in
    let there = block_there c.args.callee.now.blocks c.loop-block.block c.stmts-stmts.result.now c.term-term.result.now c.stmts-stmts.ensures c.term-term.ensures in
    pushed_more f c.args.blocks.now c.loop-block.blocks c.push.new.self c.args.callee.now.blocks c.loop-block.block k c.in_ok-block.field-0 there.0 there.1 c.loop-block.invariant c.in_ok-push.ensures.ok c.in_ok-block.ensures

pub returns : goal.returns
returns c =
    let f = bare_block c.args.behind.locals c.args.behind.blocks c.args.dest.now c.args.next in
    c.loop-block.invariant ∙ ap (λ ks. c.args.blocks.now ++ map f ks) (take_all c.loop-block.block c.args.callee.now.blocks (let e = c.loop-block-test.false in let m = c.blocks-block-end.ensures in omega (arith, e, m)))
