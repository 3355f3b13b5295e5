use Rattle.std.proofs.Common.{◌<◌, length, take}
use Rattle.mir_syntax.specs.TypeIndex.{IsIndex}
use Rattle.mir_syntax.proofs.type_index.TypeIndex.grown.Given as goal

abbrev pub invariant-loop-at : goal.invariant-loop-at
invariant-loop-at l = IsIndex (take l.at l.types) l.index.heads.items l.index.next.items × (length l.types < length l.index.heads.items)
