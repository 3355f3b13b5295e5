use Rattle.mir_bodies.proofs.place.step.Given as goal

abbrev pub ghost-to_field : goal.ghost-to_field
ghost-to_field g a = g.sense

abbrev pub ghost-to_variant_field : goal.ghost-to_variant_field
ghost-to_variant_field g a = g.sense
