use Rattle.std.proofs.Common.{refl}
use Rattle.mir_bodies.proofs.place.step.Goals as goal

pub returns-in_ok-on-in-Deref-clause-goes_on : goal.returns-in_ok-on-in-Deref-clause-goes_on
returns-in_ok-on-in-Deref-clause-goes_on g c = λ start q r.
    rw c.in-Deref.is (c.in_ok-on-in-Deref.ensures g.sense start c.args.line q c.args.draft.now refl c.requires.in_table r)
