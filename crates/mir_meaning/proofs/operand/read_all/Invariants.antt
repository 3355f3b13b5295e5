use Rattle.std.proofs.Common.{◌≡◌, map, drop}
use Rattle.mir_semantics.specs.Step.{read_all}
use Rattle.mir_meaning.specs.Sight.{here_of}
use Rattle.mir_meaning.specs.Views.{value_of, memory_of}
use Rattle.mir_meaning.proofs.Operands.{then_read}
use Rattle.mir_meaning.proofs.operand.read_all.Given as goal

abbrev pub invariant-loop-operand : goal.invariant-loop-operand
invariant-loop-operand l = read_all (here_of l.here) (memory_of l.fn.memory) l.operands ≡ then_read (map value_of l.values) (read_all (here_of l.here) (memory_of l.memory) (drop l.operand-index l.operands))
