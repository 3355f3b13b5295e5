use Rattle.mir_bodies.proofs.operand.read_operand.Given as goal

abbrev pub ghost-read_place : goal.ghost-read_place
ghost-read_place g a = g.sense
