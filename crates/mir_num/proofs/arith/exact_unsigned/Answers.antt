use Rattle.mir_num.specs.Numbers.{exact}
use Rattle.mir_num.proofs.Wrapped.{unsigned_add, unsigned_sub, unsigned_mul}
use Rattle.mir_num.proofs.arith.exact_unsigned.Goals as goal

pub returns-in-Add : goal.returns-in-Add
unfolding exact
returns-in-Add c = rw c.in-Add.is (unsigned_add c.checked_add.result c.args.x c.args.y c.checked_add.ensures)

pub returns-in-Sub : goal.returns-in-Sub
unfolding exact
returns-in-Sub c = rw c.in-Sub.is (unsigned_sub c.checked_sub.result c.args.x c.args.y c.ranges.x.fits c.checked_sub.ensures)

pub returns-in-Mul : goal.returns-in-Mul
unfolding exact
returns-in-Mul c = rw c.in-Mul.is (unsigned_mul c.checked_mul.result c.args.x c.args.y c.checked_mul.ensures)
