-- The place among the keys is the place among their names.
use Rattle.std.proofs.Common.{◌∙◌}
use Rattle.mir_names.proofs.Places.{found_place}
use Rattle.mir_names.proofs.names.Names.find.Goals as goal

pub returns-in-Some-clause-place : goal.returns-in-Some-clause-place
returns-in-Some-clause-place c = rw (← c.self.view_is) (c.in-Some.ensures.index ∙ found_place (λ k. k.items) c.args.name.now c.self.inside.names.keys)

pub returns-in-None-clause-place : goal.returns-in-None-clause-place
returns-in-None-clause-place c = rw (← c.self.view_is) (c.in-None.ensures.index ∙ found_place (λ k. k.items) c.args.name.now c.self.inside.names.keys)
