use Rattle.mir_bodies.proofs.rvalue.read_tuple.Given as goal

abbrev pub ghost-read_operand : goal.ghost-read_operand
ghost-read_operand g a = g.sense

abbrev pub ghost-read_operands : goal.ghost-read_operands
ghost-read_operands g a = g.sense
