use Rattle.mir_bodies.proofs.term.read_term.Given as goal

abbrev pub ghost-note_target : goal.ghost-note_target
ghost-note_target g a = g.sense

abbrev pub ghost-read_switch : goal.ghost-read_switch
ghost-read_switch g a = g.sense

abbrev pub ghost-read_call : goal.ghost-read_call
ghost-read_call g a = g.sense

abbrev pub ghost-read_place : goal.ghost-read_place
ghost-read_place g a = g.sense

abbrev pub ghost-read_assert : goal.ghost-read_assert
ghost-read_assert g a = g.sense
