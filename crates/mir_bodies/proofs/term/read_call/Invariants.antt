use Rattle.mir_bodies.proofs.term.read_call.Given as goal

abbrev pub ghost-read_place : goal.ghost-read_place
ghost-read_place g a = g.sense

abbrev pub ghost-read_callee : goal.ghost-read_callee
ghost-read_callee g a = g.sense

abbrev pub ghost-read_operands : goal.ghost-read_operands
ghost-read_operands g a = g.sense

abbrev pub ghost-note_target : goal.ghost-note_target
ghost-note_target g a = g.sense
