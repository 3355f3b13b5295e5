use Rattle.std.proofs.Common.{◌≡◌, ◌+◌, ◌*◌, ◌||◌, subst, arith}
use Rattle.bit_rows.specs.Words.{Mixed}
use Rattle.bit_rows.proofs.Blocks.{mixed_more}
use Rattle.bit_rows.proofs.kernel.mix_blocks.Goals as goal

pub loop-block-preserved : goal.loop-block-preserved
loop-block-preserved c =
    let block = c.loop-block.block in
    let e : block * 8 + 8 ≡ (block + 1) * 8 = omega arith in
    subst (λ n. Mixed c.args.mix c.args.words.now c.mix_block-now.new.words c.args.into c.args.others.now c.args.from n (c.loop-block.changed || c.mix_block-now.result)) e
    (mixed_more c.args.mix c.args.words.now c.loop-block.words c.mix_block-now.new.words c.args.into c.args.others.now c.args.from (block * 8) 8 c.loop-block.changed c.mix_block-now.result c.loop-block.invariant c.mix_block-now.ensures)
