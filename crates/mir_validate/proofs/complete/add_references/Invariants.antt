use Rattle.mir_validate.proofs.Completing.{Referred}
use Rattle.mir_validate.proofs.complete.add_references.Given as goal

abbrev pub invariant-loop-at : goal.invariant-loop-at
invariant-loop-at l = Referred l.fn.program l.program l.at
