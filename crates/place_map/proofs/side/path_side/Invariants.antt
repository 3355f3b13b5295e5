use Rattle.std.proofs.Common.{◌≡◌, length}
use Rattle.place_map.specs.Order.{path_side}
use Rattle.place_map.proofs.side.path_side.Given as goal

abbrev pub invariant-loop-rest : goal.invariant-loop-rest
invariant-loop-rest l = path_side l.left l.rest ≡ path_side l.tracked l.path

abbrev pub decreases-loop-rest : goal.decreases-loop-rest
decreases-loop-rest l = length l.rest
