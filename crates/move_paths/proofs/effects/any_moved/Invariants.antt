use Rattle.std.proofs.Common.{◌≡◌, length}
use Rattle.move_paths.specs.Effects.{moved_by}
use Rattle.move_paths.proofs.effects.any_moved.Given as goal

abbrev pub invariant-loop-rest : goal.invariant-loop-rest
invariant-loop-rest l = moved_by l.rest l.unit ≡ moved_by l.fn.operands l.unit

abbrev pub decreases-loop-rest : goal.decreases-loop-rest
decreases-loop-rest l = length l.rest
