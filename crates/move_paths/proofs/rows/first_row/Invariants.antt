use Rattle.std.proofs.Common.{false, length, get_or}
use Rattle.move_paths.specs.Rows.{first_row}
use Rattle.move_paths.proofs.Fill.{FillsTo}
use Rattle.move_paths.proofs.rows.first_row.Given as goal

abbrev pub invariant-loop-at : goal.invariant-loop-at
invariant-loop-at l = FillsTo (length l.units.places) l.at (λ k. get_or (first_row l.status l.args l.units.places) k false) l.row
