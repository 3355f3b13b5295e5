use Rattle.std.proofs.Common.{ap, ◌∙◌, sym, nat_eq, lit<}
use Rattle.std.specs.Int.{w64}
use Rattle.std.proofs.lemmas.Nat.Bits.{bit_at_set_same, bit_at_set_other, bit_at_clear_same, bit_at_clear_other}
use Rattle.std.proofs.lemmas.Nat.{or_lt, mod_below}
use Rattle.bit_rows.proofs.kernel.with_bit.Goals as goal

pub returns-then-on-clause-here : goal.returns-then-on-clause-here
returns-then-on-clause-here c = ap (λ n. nat_eq n 1) (bit_at_set_same w64 c.args.word c.args.bit c.requires) ∙ sym c.if-on.true

pub returns-then-on-clause-others : goal.returns-then-on-clause-others
returns-then-on-clause-others c = λ k l ne. ap (λ n. nat_eq n 1) (bit_at_set_other w64 c.args.word c.args.bit c.requires k ne)

pub returns-else-on-clause-here : goal.returns-else-on-clause-here
returns-else-on-clause-here c = ap (λ n. nat_eq n 1) (bit_at_clear_same w64 c.args.word c.args.bit c.requires) ∙ sym c.if-on.false

pub returns-else-on-clause-others : goal.returns-else-on-clause-others
returns-else-on-clause-others c = λ k l ne. ap (λ n. nat_eq n 1) (bit_at_clear_other w64 c.args.word c.args.bit c.requires k l ne)

pub returns-then-on-clause-fits : goal.returns-then-on-clause-fits
returns-then-on-clause-fits c = or_lt 64 c.args.word _ c.ranges.word.fits (mod_below _ _ (lit< tt))
