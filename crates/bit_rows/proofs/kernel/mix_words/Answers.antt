use Rattle.std.proofs.Common.{◌++◌, List, ℕ, sym, subst, arith}
use Rattle.bit_rows.specs.Words.{Mixed}
use Rattle.bit_rows.proofs.Blocks.{mixed_front, mixed_back}
use Rattle.bit_rows.proofs.kernel.mix_words.Goals as goal

pub returns-then-into-from : goal.returns-then-into-from
returns-then-into-from c =
    let split = c.split_at_mut-front in
    let mix = c.mix_others in
    subst (λ (ws : List ℕ). Mixed c.args.mix ws (mix.new.words ++ split.result.1.now) c.args.into ws c.args.from c.args.count mix.result) (sym split.ensures.value)
    (mixed_front c.args.mix split.result.0.now mix.new.words split.result.1.now c.args.into c.args.from c.args.count mix.result split.ensures.front_len (omega arith) mix.ensures)

pub returns-else-into-from : goal.returns-else-into-from
returns-else-into-from c =
    let split = c.split_at_mut-front-else-into-from in
    let mix = c.mix_others-else-into-from in
    subst (λ (ws : List ℕ). Mixed c.args.mix ws (split.result.0.now ++ mix.new.words) c.args.into ws c.args.from c.args.count mix.result) (sym split.ensures.value)
    (mixed_back c.args.mix split.result.0.now split.result.1.now mix.new.words c.args.into c.args.from c.args.count mix.result split.ensures.front_len (omega arith) mix.ensures)
