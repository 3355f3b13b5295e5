use Rattle.mir_meaning.specs.Views.{value_of, address}
use Rattle.mir_meaning.proofs.Memories.{at_none, at_some}
use Rattle.mir_meaning.proofs.memory.Memory.at.Goals as goal

pub returns-in_default : goal.returns-in_default
returns-in_default c = at_none _ (address c.args.frame c.args.local c.args.path.now) c.in_default.ensures

pub returns : goal.returns
returns c = at_some _ (address c.args.frame c.args.local c.args.path.now) (value_of c.in-Some.datum.now) _ c.in-Some.ensures c.along.ensures
