use Rattle.mir_bodies.proofs.stmt.read_assign.Given as goal

abbrev pub ghost-read_place : goal.ghost-read_place
ghost-read_place g a = g.sense

abbrev pub ghost-read_rvalue : goal.ghost-read_rvalue
ghost-read_rvalue g a = g.sense
