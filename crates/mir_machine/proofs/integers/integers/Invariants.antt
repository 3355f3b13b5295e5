use Rattle.std.proofs.Common.{◌≡◌, map, drop}
use Rattle.mir_semantics.specs.Step.{integers}
use Rattle.mir_meaning.specs.Sight.{here_of}
use Rattle.mir_meaning.specs.Views.{memory_of}
use Rattle.mir_machine.specs.Ends.{integer_in}
use Rattle.mir_machine.proofs.Messages.{then_integers}
use Rattle.mir_machine.proofs.integers.integers.Given as goal

abbrev pub invariant-loop-operand : goal.invariant-loop-operand
invariant-loop-operand l = integers (here_of l.here) (memory_of l.fn.memory) l.operands ≡ then_integers (map integer_in l.numbers) (integers (here_of l.here) (memory_of l.memory) (drop l.operand-index l.operands))
