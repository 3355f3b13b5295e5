use Rattle.std.proofs.Common.{◌++◌, sym, ap, ◌∙◌, arith}
use Rattle.run_text.proofs.Commas.{first_text, number_put, whole_text}
use Rattle.run_text.proofs.integers.put_integers.Goals as goal

pub loop-number-init : goal.loop-number-init
loop-number-init c =
    c.in_ok-put_integer-in-len1-up.ensures ∙ ap (λ t. c.args.out.now ++ t) (sym (first_text c.args.numbers.now _ (omega (arith, c.in-len1-up.len_at_least))))

pub loop-number-preserved : goal.loop-number-preserved
loop-number-preserved c =
    number_put c.args.numbers.now c.loop-number.number-index _ c.args.out.now c.loop-number.out (omega (arith, c.in-len1-up.len_at_least)) (omega (arith, c.loop-number-test.true)) c.loop-number.invariant c.in_ok-put-in-len1-up.ensures c.in_ok-put_integer-in-len1-up-2.ensures

pub returns-after-loop-number : goal.returns-after-loop-number
returns-after-loop-number c =
    c.loop-number.invariant
    ∙ ap (λ t. c.args.out.now ++ t) (whole_text c.args.numbers.now c.loop-number.number-index (omega (arith, c.in-len1-up.len_at_least)) c.loop-number-test.false)
