use Rattle.std.proofs.Common.{◌≡◌, map, take}
use Rattle.mir_resolve.specs.Types.{read_id}
use Rattle.mir_resolve.proofs.types.ids_of.Given as goal

abbrev pub invariant-loop-read : goal.invariant-loop-read
invariant-loop-read l = l.ids ≡ map read_id (take l.read-index l.reads)
