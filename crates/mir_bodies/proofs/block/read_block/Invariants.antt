use Rattle.mir_bodies.proofs.block.read_block.Given as goal

abbrev pub ghost-read_stmts : goal.ghost-read_stmts
ghost-read_stmts g a = g.sense

abbrev pub ghost-read_term : goal.ghost-read_term
ghost-read_term g a = g.sense
