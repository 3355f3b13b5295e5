use Rattle.std.proofs.Common.{◌≡◌, [], ◌∷◌, false, length, replicate}
use Rattle.std.specs.List.{flat_map, range_with_len}
use Rattle.bit_rows.specs.Rows.{marked}
use Rattle.dest_prop.specs.Code.{marked_shared}
use Rattle.dest_prop.proofs.merge.shared_row.Given as goal

abbrev pub invariant-loop-local : goal.invariant-loop-local
invariant-loop-local l = l.row ≡ marked (replicate (length l.homes) false) (flat_map (marked_shared l.homes) (range_with_len 0 l.local)) ∷ []
