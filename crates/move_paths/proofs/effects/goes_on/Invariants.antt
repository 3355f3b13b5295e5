use Rattle.std.proofs.Common.{◌≡◌, length}
use Rattle.move_paths.specs.Effects.{goes_on}
use Rattle.move_paths.proofs.effects.goes_on.Given as goal

abbrev pub invariant-loop-left : goal.invariant-loop-left
invariant-loop-left l = goes_on l.left l.rest ≡ goes_on l.fn.path l.fn.unit

abbrev pub decreases-loop-left : goal.decreases-loop-left
decreases-loop-left l = length l.left
