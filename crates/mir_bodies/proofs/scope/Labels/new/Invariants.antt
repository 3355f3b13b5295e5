use Rattle.std.proofs.Common.{◌≡◌, ℕ, nat_eq, ◌||◌, map, length}
use Rattle.std.specs.HashSet.{contains}
use Rattle.mir_text.specs.NameFaults.{is_among}
use Rattle.mir_bodies.specs.Labels.{label_of}
use Rattle.mir_bodies.proofs.scope.Labels.new.Given as goal

abbrev pub invariant-labels : goal.invariant-labels
invariant-labels l = (b : ℕ) → contains nat_eq l.numbers b || is_among (map label_of l.left) b ≡ is_among (map label_of l.blocks) b

abbrev pub decreases-labels : goal.decreases-labels
decreases-labels l = length l.left
