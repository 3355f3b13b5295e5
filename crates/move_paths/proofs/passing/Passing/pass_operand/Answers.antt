use Rattle.move_paths.proofs.Each.{does_nothing}
use Rattle.move_paths.proofs.Moves.{moves_operand, not_moved}
use Rattle.move_paths.proofs.passing.Passing.pass_operand.Goals as goal

pub returns-in_default : goal.returns-in_default
returns-in_default c = (let s = c.args.self.now in let o = c.args.operand.now in does_nothing (moves_operand s.status o) s.units.now.places c.args.row c.args.rows.now c.requires.bits (not_moved s.status o c.in_default.not-Move))
