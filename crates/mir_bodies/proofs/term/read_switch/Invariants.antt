use Rattle.mir_bodies.proofs.term.read_switch.Given as goal

abbrev pub ghost-read_operand : goal.ghost-read_operand
ghost-read_operand g a = g.sense

abbrev pub ghost-read_arms : goal.ghost-read_arms
ghost-read_arms g a = g.sense

abbrev pub ghost-note_target : goal.ghost-note_target
ghost-note_target g a = g.sense
