use Rattle.mir_bodies.proofs.rvalue.read_build.Given as goal

abbrev pub ghost-built_by : goal.ghost-built_by
ghost-built_by g a = g.sense

abbrev pub ghost-fits : goal.ghost-fits
ghost-fits g a = g.sense

abbrev pub ghost-read_parts : goal.ghost-read_parts
ghost-read_parts g a = g.sense
