use Rattle.mir_num.proofs.values.wrap.Goals as goal
use Rattle.mir_num.proofs.Patterns.{masked}

pub returns : goal.returns
returns c = masked c.args.ty c.args.a _ c.mask.ensures
