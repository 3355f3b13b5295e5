use Rattle.mir_resolve.proofs.PartNotes.{nothing_went}
use Rattle.mir_bodies.proofs.stmt.read_stmt.Goals as goal

pub returns-in-Nop-clause-went : goal.returns-in-Nop-clause-went
returns-in-Nop-clause-went g c = rw c.in-Nop.is (nothing_went c.args.draft.now c.args.line)
