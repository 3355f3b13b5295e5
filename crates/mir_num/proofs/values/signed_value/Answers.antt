use Rattle.std.proofs.Common.{arith}
use Rattle.mir_num.proofs.values.signed_value.Goals as goal
use Rattle.mir_num.proofs.Patterns.{low_value, high_value}

pub returns-then-low-mask : goal.returns-then-low-mask
returns-then-low-mask c = low_value c.args.ty c.args.a _ c.requires c.mask-mask.ensures (grind (arith, c.if-low-mask.true))

pub returns-else-low-mask : goal.returns-else-low-mask
returns-else-low-mask c = high_value c.args.ty c.args.a _ c.requires c.mask-mask.ensures (grind (arith, c.if-low-mask.false))
