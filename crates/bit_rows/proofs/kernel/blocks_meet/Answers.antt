use Rattle.std.proofs.Common.{◌+◌, ◌*◌, inl, inr, refl, arith}
use Rattle.std.proofs.lemmas.Bool.{both_ways}
use Rattle.bit_rows.proofs.Blocks.{meet_later, meet_split, no_meet}
use Rattle.bit_rows.proofs.kernel.blocks_meet.Goals as goal

pub returns-then-block_meets : goal.returns-then-block_meets
returns-then-block_meets c =
    let at = c.loop-block.block * 8 in (
      λ t. meet_later c.args.words.now c.args.a c.args.b at 8 (c.args.blocks * 8) (omega (arith, c.loop-block-test.true)) (c.block_meets.ensures.0 c.if-block_meets.true),
      λ r. refl,
    )

pub loop-block-preserved : goal.loop-block-preserved
loop-block-preserved c =
    let words = c.args.words.now in
    let at = c.loop-block.block * 8 in
    no_meet words c.args.a c.args.b ((c.loop-block.block + 1) * 8) (λ r. elim (meet_split words c.args.a c.args.b at 8 ((c.loop-block.block + 1) * 8) (omega arith) r) [
      | inl h ↦ h.2 (c.loop-block.invariant h.0 h.1)
      | inr h ↦ both_ways c.block_meets.result c.if-block_meets.false (c.block_meets.ensures.1 h)
    ])
