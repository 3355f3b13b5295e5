use Rattle.std.proofs.Common.{◌≡◌, length}
use Rattle.mir_validate.specs.Terms.{ascends_from}
use Rattle.mir_validate.proofs.terminator.is_ascending_from.Given as goal

abbrev pub invariant-values : goal.invariant-values
invariant-values l = ascends_from l.least l.values ≡ ascends_from l.last l.rest

abbrev pub decreases-values : goal.decreases-values
decreases-values l = length l.rest
