use Rattle.std.proofs.Common.{arith}
use Rattle.mir_entry.proofs.Exact.{up_fits, up_over}
use Rattle.mir_entry.proofs.scalars.bits_up.Goals as goal

pub returns-then-size-greatest : goal.returns-then-size-greatest
returns-then-size-greatest c = up_fits c.args.ty c.args.size (omega (arith, c.greatest.ensures))

pub returns-else-size-greatest : goal.returns-else-size-greatest
returns-else-size-greatest c = up_over c.args.ty c.args.size (omega (arith, c.greatest.ensures))
