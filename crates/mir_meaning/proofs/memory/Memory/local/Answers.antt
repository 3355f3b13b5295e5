use Rattle.mir_meaning.proofs.Memories.{local_none, local_read}
use Rattle.mir_meaning.proofs.memory.Memory.local.Goals as goal

pub returns-in_default : goal.returns-in_default
returns-in_default c = local_none c.args.self.now.stores c.as_slice-stores.result.now c.args.frame c.args.local c.as_slice-stores.ensures c.in_default.ensures.found

pub returns : goal.returns
returns c = local_read c.args.self.now.stores c.as_slice-stores.result.now c.args.frame c.in-Some.at c.args.local c.index-stores-at.result c.get.result c.as_slice-stores.ensures c.in-Some.ensures.found c.get.ensures
