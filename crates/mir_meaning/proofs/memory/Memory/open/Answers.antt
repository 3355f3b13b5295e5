use Rattle.std.proofs.Common.{◌∙◌, ap, []}
use Rattle.mir_meaning.specs.Views.{memory_from}
use Rattle.mir_meaning.proofs.Memories.{opened}
use Rattle.mir_meaning.proofs.memory.Memory.open.Goals as goal

pub returns : goal.returns
returns c = ap (λ l. memory_from l []) c.in_ok-push.ensures.ok ∙ opened c.args.self.now.stores (record { frame = c.args.frame; slots = c.args.slots })
