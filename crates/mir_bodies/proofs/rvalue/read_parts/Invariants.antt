use Rattle.mir_bodies.proofs.rvalue.read_parts.Given as goal

abbrev pub ghost-read_operands : goal.ghost-read_operands
ghost-read_operands g a = g.sense

abbrev pub ghost-read_named : goal.ghost-read_named
ghost-read_named g a = g.sense
