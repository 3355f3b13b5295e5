use Rattle.std.proofs.Common.{◌≡◌, map, take, length}
use Rattle.mir_meaning.specs.Programs.{type_in}
use Rattle.mir_machine.specs.Ends.{integer_in}
use Rattle.run_text.specs.RunText.{arguments}
use Rattle.run_text.proofs.calls.arguments.Given as goal

abbrev pub invariant-loop-ty : goal.invariant-loop-ty
invariant-loop-ty l = map integer_in l.numbers ≡ arguments (map (type_in l.program) (take (length l.yielded) l.types)) (take (length l.yielded) l.bits)
