use Rattle.std.proofs.Common.{◌≡◌, map, take}
use Rattle.pipe_words.specs.Numbers.{wrapped}
use Rattle.pipe_words.proofs.numbers.wrap_all.Given as goal

abbrev pub invariant-loop-number : goal.invariant-loop-number
invariant-loop-number l = l.bits ≡ map wrapped (take l.number-index l.numbers)
