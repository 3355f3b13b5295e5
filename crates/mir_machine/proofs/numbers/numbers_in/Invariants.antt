use Rattle.std.proofs.Common.{◌≡◌, map, drop}
use Rattle.mir_semantics.specs.Step.{numbers_in}
use Rattle.mir_meaning.specs.Views.{value_of}
use Rattle.mir_machine.proofs.Bits.{then_numbers}
use Rattle.mir_machine.proofs.numbers.numbers_in.Given as goal

abbrev pub invariant-loop-value : goal.invariant-loop-value
invariant-loop-value l = numbers_in (map value_of l.values) ≡ then_numbers l.numbers (numbers_in (map value_of (drop l.value-index l.values)))
