use Rattle.std.proofs.Common.{arith}
use Rattle.pipe_words.proofs.Tokens.{same_number}
use Rattle.pipe_words.proofs.numbers.read_negative.Goals.{else-size-gt0-via-then-size-gt0+else-size-le-LEAST_SIZE, else-size-gt0-via-else-size-gt0}
use Rattle.pipe_words.proofs.numbers.read_negative.Goals as goal

pub returns-else-size-gt0 : goal.returns-else-size-gt0
returns-else-size-gt0 c = λ n range e.
    let same = same_number c.args.digits.now c.in-Some.size n c.in-Some.ensures.0 (omega arith) c.in-Some.ensures.1 e in
    elim c.else-size-gt0.branch [
      | else-size-gt0-via-then-size-gt0+else-size-le-LEAST_SIZE w ↦ omega arith
      | else-size-gt0-via-else-size-gt0 w ↦ omega arith
    ]
