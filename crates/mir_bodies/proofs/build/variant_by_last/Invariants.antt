use Rattle.mir_bodies.proofs.build.variant_by_last.Given as goal

abbrev pub ghost-variant_named : goal.ghost-variant_named
ghost-variant_named g a = g.sense
