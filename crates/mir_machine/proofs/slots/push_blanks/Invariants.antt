use Rattle.std.proofs.Common.{◌≡◌, ◌++◌, map, take}
use Rattle.mir_semantics.specs.Step.{blanks}
use Rattle.mir_meaning.specs.Programs.{shapes_in, type_in}
use Rattle.mir_meaning.specs.Views.{value_of}
use Rattle.mir_machine.proofs.slots.push_blanks.Given as goal

abbrev pub invariant-loop-ty : goal.invariant-loop-ty
invariant-loop-ty l = map value_of l.slots ≡ map value_of l.fn.slots ++ blanks (shapes_in l.program) (map (type_in l.program) (take l.ty-index l.types))
