use Rattle.move_paths.specs.Effects.{in_local}
use Rattle.move_paths.specs.Rows.{written}
use Rattle.move_paths.proofs.Writing.{WritingAt}
use Rattle.move_paths.proofs.units.BodyUnits.write_under.Given as goal

abbrev pub invariant-loop-at : goal.invariant-loop-at
invariant-loop-at l = WritingAt (written (in_local l.local l.path) l.on) l.self.places l.fn.rows l.rows l.row l.at
