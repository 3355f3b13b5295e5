use Rattle.std.proofs.Common.{◌≡◌, ◌+◌, map, length}
use Rattle.mir_text.specs.NameFaults.{in_order}
use Rattle.mir_file.specs.Declarations.{label_in}
use Rattle.mir_file.proofs.head.are_in_order.Given as goal

abbrev pub invariant-labels : goal.invariant-labels
invariant-labels l = record {
  ordered : in_order l.number (map label_in l.left) ≡ in_order 0 (map label_in l.blocks);
  size : l.number + length l.left ≡ length l.blocks;
}

abbrev pub decreases-labels : goal.decreases-labels
decreases-labels l = length l.left
