use Rattle.mir_resolve.proofs.PartNotes.{nothing_went}
use Rattle.mir_bodies.proofs.rvalue.read_rvalue.Goals as goal

pub returns-in-Nothing-clause-went : goal.returns-in-Nothing-clause-went
returns-in-Nothing-clause-went g c = rw c.in-Nothing.is (nothing_went c.args.draft.now c.args.line)
