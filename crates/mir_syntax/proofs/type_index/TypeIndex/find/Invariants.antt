use Rattle.std.proofs.Common.{length}
use Rattle.mir_syntax.proofs.TypeIndex.{Passed}
use Rattle.mir_syntax.proofs.type_index.TypeIndex.find.Given as goal

abbrev pub invariant-loop-link : goal.invariant-loop-link
invariant-loop-link l = Passed l.types (length l.self.heads.items) l.ty l.link

abbrev pub decreases-loop-link : goal.decreases-loop-link
decreases-loop-link l = l.link
