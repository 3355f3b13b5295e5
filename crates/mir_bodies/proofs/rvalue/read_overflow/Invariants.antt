use Rattle.mir_bodies.proofs.rvalue.read_overflow.Given as goal

abbrev pub ghost-read_operand : goal.ghost-read_operand
ghost-read_operand g a = g.sense
