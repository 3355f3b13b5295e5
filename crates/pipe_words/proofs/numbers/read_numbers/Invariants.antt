use Rattle.std.proofs.Common.{◌≡◌, map}
use Rattle.std.specs.List.{All}
use Rattle.pipe_words.specs.Numbers.{number_text}
use Rattle.pipe_words.proofs.NumberLists.{Ranged}
use Rattle.pipe_words.proofs.numbers.read_numbers.Given as goal

abbrev pub invariant-loop-part : goal.invariant-loop-part
invariant-loop-part l = record { texts : map number_text l.numbers ≡ map (λ x. x.now) l.yielded; range : All Ranged l.numbers }
