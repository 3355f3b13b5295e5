use Rattle.std.proofs.Common.{◌≤◌, arith}
use Rattle.pipe_words.proofs.Tokens.{same_number}
use Rattle.pipe_words.proofs.numbers.read_between.Goals.{else-from-number-via-then-from-number+else-number-from, else-from-number-via-else-from-number}
use Rattle.pipe_words.proofs.numbers.read_between.Goals as goal

pub returns-else-from-number : goal.returns-else-from-number
returns-else-from-number c = λ n is.
    let low : c.args.least ≤ n = is.low in
    let high : n ≤ c.args.most = is.high in
    let same = same_number c.args.word.now c.in-Some.number n c.in-Some.ensures.0 (omega arith) c.in-Some.ensures.1 is.whole in
    elim c.else-from-number.branch [
      | else-from-number-via-then-from-number+else-number-from w ↦ absurd (omega arith)
      | else-from-number-via-else-from-number w ↦ absurd (omega arith)
    ]

pub returns-in-None : goal.returns-in-None
returns-in-None c = λ n is.
    let high : n ≤ c.args.most = is.high in
    c.in-None.ensures n (omega arith) is.whole
