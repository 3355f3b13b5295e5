use Rattle.mir_resolve.proofs.PartNotes.{nothing_went}
use Rattle.mir_bodies.proofs.operand.read_operand.Goals as goal

pub returns-in-Const-clause-went : goal.returns-in-Const-clause-went
returns-in-Const-clause-went g c = rw c.in-Const.is (nothing_went c.args.draft.now c.args.line)
