use Rattle.mir_bodies.proofs.place.to_variant_field.Given as goal

abbrev pub ghost-variant_at : goal.ghost-variant_at
ghost-variant_at g a = g.sense

abbrev pub ghost-differs_from : goal.ghost-differs_from
ghost-differs_from g a = g.sense
