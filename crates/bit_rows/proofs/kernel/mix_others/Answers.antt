use Rattle.std.proofs.Common.{◌≡◌, ◌+◌, ◌-◌, ◌*◌, ◌/◌, ◌||◌, subst, arith}
use Rattle.bit_rows.specs.Words.{Mixed}
use Rattle.bit_rows.proofs.Blocks.{mixed_more}
use Rattle.bit_rows.proofs.kernel.mix_others.Goals as goal

pub returns : goal.returns
returns c =
    let done = c.args.count / 8 * 8 in
    let e : done + (c.args.count - done) ≡ c.args.count = omega arith in
    subst (λ n. Mixed c.args.mix c.args.words.now c.mix_each-rest.new.words c.args.into c.args.others.now c.args.from n (c.mix_blocks-first.result || c.mix_each-rest.result)) e
    (mixed_more c.args.mix c.args.words.now c.mix_blocks-first.new.words c.mix_each-rest.new.words c.args.into c.args.others.now c.args.from done (c.args.count - done) c.mix_blocks-first.result c.mix_each-rest.result c.mix_blocks-first.ensures c.mix_each-rest.ensures)
