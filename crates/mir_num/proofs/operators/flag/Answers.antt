use Rattle.std.proofs.Common.{arith}
use Rattle.mir_num.specs.Numbers.{flag}
use Rattle.mir_num.proofs.operators.flag.Goals as goal

pub returns-then-holds : goal.returns-then-holds
unfolding flag
returns-then-holds c = grind (arith, c.if-holds.true)

pub returns-else-holds : goal.returns-else-holds
unfolding flag
returns-else-holds c = grind (arith, c.if-holds.false)
