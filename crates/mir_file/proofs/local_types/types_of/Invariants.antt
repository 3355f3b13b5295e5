use Rattle.std.proofs.Common.{◌≡◌}
use Rattle.mir_file.specs.Declarations.{ids_from}
use Rattle.mir_file.proofs.local_types.types_of.Given as goal

abbrev pub invariant-loop-local : goal.invariant-loop-local
invariant-loop-local l = l.ids ≡ ids_from l.locals l.unit 0 l.local
