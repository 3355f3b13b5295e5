use Rattle.std.proofs.Common.{◌≡◌, map, take, fold}
use Rattle.mir_syntax.specs.TypeIndex.{with_number, number_of}
use Rattle.mir_syntax.proofs.type_index.hash_ids.Given as goal

abbrev pub invariant-loop-id : goal.invariant-loop-id
invariant-loop-id l = l.hasher ≡ fold with_number l.fn.hasher (map number_of (take l.id-index l.ids))
