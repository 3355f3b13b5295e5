use Rattle.mir_resolve.proofs.PartNotes.{nothing_went}
use Rattle.mir_resolve.proofs.definitions.read_fields.Goals as goal

pub returns-in-Plain-clause-went : goal.returns-in-Plain-clause-went
returns-in-Plain-clause-went c = rw c.in-Plain.is (nothing_went c.args.draft.now c.args.line)
