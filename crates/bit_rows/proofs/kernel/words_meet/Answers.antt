use Rattle.std.proofs.Common.{◌-◌, ◌*◌, ◌/◌, inl, inr, arith}
use Rattle.std.proofs.lemmas.Bool.{both_ways}
use Rattle.bit_rows.proofs.Blocks.{meet_later, meet_split}
use Rattle.bit_rows.proofs.kernel.words_meet.Goals as goal

pub returns-else-blocks_meet : goal.returns-else-blocks_meet
returns-else-blocks_meet c =
    let words = c.args.words.now in
    let done = c.args.count / 8 * 8 in (
      λ t. meet_later words c.args.a c.args.b done (c.args.count - done) c.args.count (omega arith) (c.each_meets.ensures.0 t),
      λ r. elim (meet_split words c.args.a c.args.b done (c.args.count - done) c.args.count (omega arith) r) [
        | inl h ↦ absurd (both_ways c.blocks_meet.result c.if-blocks_meet.false (c.blocks_meet.ensures.1 h))
        | inr h ↦ c.each_meets.ensures.1 h
      ],
    )
