use Rattle.bit_rows.proofs.Marks.{marks_then}
use Rattle.liveness.specs.Live.{operand_locals}
use Rattle.liveness.proofs.backward.read_both.Goals as goal

pub returns : goal.returns
returns c = marks_then c.args.rows.now c.read_operand.new.rows c.read_operand-2.new.rows c.args.row (operand_locals c.args.a.now) (operand_locals c.args.b.now) c.requires c.read_operand.ensures c.read_operand-2.ensures
