use Rattle.mir_bodies.proofs.build.variant_named.Given as goal

abbrev pub ghost-enum_variant : goal.ghost-enum_variant
ghost-enum_variant g a = g.sense
