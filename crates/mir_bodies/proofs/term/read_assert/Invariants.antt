use Rattle.mir_bodies.proofs.term.read_assert.Given as goal

abbrev pub ghost-read_operand : goal.ghost-read_operand
ghost-read_operand g a = g.sense

abbrev pub ghost-read_operands : goal.ghost-read_operands
ghost-read_operands g a = g.sense

abbrev pub ghost-note_target : goal.ghost-note_target
ghost-note_target g a = g.sense
