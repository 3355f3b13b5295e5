use Rattle.std.proofs.Common.{take}
use Rattle.move_paths.proofs.Each.{Does}
use Rattle.move_paths.proofs.Moves.{moves}
use Rattle.move_paths.proofs.passing.Passing.pass_operands.Given as goal

abbrev pub invariant-loop-operand : goal.invariant-loop-operand
invariant-loop-operand l = Does (moves l.self.status (take l.operand-index l.operands)) l.self.units.now.places l.row l.fn.rows l.rows
