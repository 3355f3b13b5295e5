use Rattle.std.proofs.Common.{refl, sym, ◌∙◌, length, true, false}
use Rattle.candidates.specs.Walk.{never_in}
use Rattle.candidates.proofs.Walking.{brings_one}
use Rattle.candidates.proofs.walk.Walk.bring_one.Goals as goal

pub returns-else-adds : goal.returns-else-adds
returns-else-adds c = brings_one (never_in c.args.functions.now) (length c.args.functions.now) c.args.c c.args.self.now _ false c.requires.walk c.requires.c (sym c.if-adds.false ∙ c.is_new-adds.ensures) refl refl refl refl c.set.ensures

pub returns-in_ok-push : goal.returns-in_ok-push
returns-in_ok-push c = brings_one (never_in c.args.functions.now) (length c.args.functions.now) c.args.c c.args.self.now _ true c.requires.walk c.requires.c (sym c.if-adds.true ∙ c.is_new-adds.ensures) refl refl refl c.in_ok-push.ensures.ok c.set.ensures
