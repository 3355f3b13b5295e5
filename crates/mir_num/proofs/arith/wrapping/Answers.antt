use Rattle.std.proofs.Common.{◌∙◌}
use Rattle.mir_num.specs.Numbers.{exact}
use Rattle.mir_num.proofs.Wrapped.{wrapped_add, wrapped_sub, wrapped_mul}
use Rattle.mir_num.proofs.arith.wrapping.Goals as goal

pub returns-in-Add : goal.returns-in-Add
unfolding exact
returns-in-Add c = rw c.in-Add.is (c.wrap.ensures ∙ wrapped_add c.args.ty c.args.a c.args.b)

pub returns-in-Sub : goal.returns-in-Sub
unfolding exact
returns-in-Sub c = rw c.in-Sub.is (c.wrap-in-Sub.ensures ∙ wrapped_sub c.args.ty c.args.a c.args.b c.ranges.b.fits)

pub returns-in-Mul : goal.returns-in-Mul
unfolding exact
returns-in-Mul c = rw c.in-Mul.is (c.wrap-in-Mul.ensures ∙ wrapped_mul c.args.ty c.args.a c.args.b)
