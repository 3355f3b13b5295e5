use Rattle.std.proofs.Common.{map, arith, refl, ◌+◌}
use Rattle.mir_print.specs.Seen.{crate_in}
use Rattle.mir_syntax.specs.Tree.{at_id, trees_of}
use Rattle.mir_text.specs.TermText.{blocks_text}
use Rattle.mir_syntax.specs.Crate.{block_of}
use Rattle.mir_print.proofs.Texts.{remains_more, remains_none, first_block, no_blocks}
use Rattle.mir_print.proofs.block.put_blocks.Goals as goal

pub loop-number-preserved : goal.loop-number-preserved
loop-number-preserved g c =
    remains_more ((λ xs. blocks_text (crate_in c.args.program.now) (map (at_id (trees_of c.args.program.now.types)) c.args.locals.now) c.loop-number.number (map (block_of (trees_of c.args.program.now.types)) xs))) ((λ xs. blocks_text (crate_in c.args.program.now) (map (at_id (trees_of c.args.program.now.types)) c.args.locals.now) (c.loop-number.number + 1) (map (block_of (trees_of c.args.program.now.types)) xs))) c.args.blocks.now c.loop-number.number c.index-blocks-number.result
    (omega (arith, c.loop-number-test.true, c.loop-number.auto.number-end)) c.index-blocks-number.is (first_block (crate_in c.args.program.now) (map (at_id (trees_of c.args.program.now.types)) c.args.locals.now) c.loop-number.number (c.loop-number.number + 1) _ _ refl) c.loop-number.invariant c.put_next_block.ensures

pub returns : goal.returns
returns g c =
    remains_none ((λ xs. blocks_text (crate_in c.args.program.now) (map (at_id (trees_of c.args.program.now.types)) c.args.locals.now) c.loop-number.number (map (block_of (trees_of c.args.program.now.types)) xs))) c.args.blocks.now c.loop-number.number (omega (arith, c.loop-number-test.false, c.loop-number.auto.number-end)) (no_blocks (crate_in c.args.program.now) (map (at_id (trees_of c.args.program.now.types)) c.args.locals.now) c.loop-number.number) c.loop-number.invariant
