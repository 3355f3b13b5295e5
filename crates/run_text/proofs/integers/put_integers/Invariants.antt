use Rattle.std.proofs.Common.{◌≡◌, ◌++◌, ◌+◌}
use Rattle.run_text.proofs.Commas.{front_text}
use Rattle.run_text.proofs.integers.put_integers.Given as goal

abbrev pub invariant-loop-number : goal.invariant-loop-number
invariant-loop-number l = l.out ≡ l.fn.out ++ front_text l.numbers (l.number-index + 1)
