use Rattle.mir_bodies.proofs.place.to_field.Given as goal

abbrev pub ghost-differs_from : goal.ghost-differs_from
ghost-differs_from g a = g.sense
