use Rattle.mir_bodies.proofs.build.built_by.Given as goal

abbrev pub ghost-struct_named : goal.ghost-struct_named
ghost-struct_named g a = g.sense

abbrev pub ghost-variant_by_last : goal.ghost-variant_by_last
ghost-variant_by_last g a = g.sense
