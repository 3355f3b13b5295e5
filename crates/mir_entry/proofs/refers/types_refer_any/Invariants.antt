use Rattle.std.proofs.Common.{◌≡◌, drop}
use Rattle.mir_syntax.specs.Tree.{at_ids, trees_of}
use Rattle.mir_semantics.specs.Entry.{holds_reference}
use Rattle.mir_meaning.specs.Programs.{shapes_in}
use Rattle.mir_entry.proofs.refers.types_refer_any.Given as goal

abbrev pub invariant-loop-ty : goal.invariant-loop-ty
invariant-loop-ty l = holds_reference (shapes_in l.program) (at_ids (trees_of l.program.types) l.types) ≡ holds_reference (shapes_in l.program) (at_ids (trees_of l.program.types) (drop l.ty-index l.types))
