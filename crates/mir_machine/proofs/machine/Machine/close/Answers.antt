use Rattle.mir_machine.proofs.Frames.{popped_closes}
use Rattle.mir_machine.proofs.machine.Machine.close.Goals as goal

pub returns-clause-memory : goal.returns-clause-memory
returns-clause-memory c = popped_closes c.args.self.now c.pop-locals.new.self c.pop-locals.result c.pop-locals.ensures c.requires
