use Rattle.std.proofs.Common.{refl}
use Rattle.mir_semantics.specs.Step.{local_addr}
use Rattle.mir_meaning.proofs.memory.Memory.start.Goals as goal

pub returns-clause-addr : goal.returns-clause-addr
unfolding local_addr
returns-clause-addr c = refl
