use Rattle.std.proofs.Common.{◌≡◌, length, decimal, ap, arith}
use Rattle.std.proofs.lemmas.Bool.Decides.{nat_tests}
use Rattle.pipe_words.proofs.Tokens.{some_digits}
use Rattle.pipe_words.proofs.numbers.token_number.Goals as goal

pub returns-then-is_empty : goal.returns-then-is_empty
returns-then-is_empty c = λ n small e.
    let some = some_digits n small in
    let same : length c.args.text.now ≡ length (decimal n) = ap length e in
    let none : length c.args.text.now ≡ 0 = grind (arith, nat_tests) in
    absurd (omega arith)
