use Rattle.mir_bodies.proofs.stmt.read_stmt.Given as goal

abbrev pub ghost-read_assign : goal.ghost-read_assign
ghost-read_assign g a = g.sense

abbrev pub ghost-note_local : goal.ghost-note_local
ghost-note_local g a = g.sense

abbrev pub ghost-read_place : goal.ghost-read_place
ghost-read_place g a = g.sense
