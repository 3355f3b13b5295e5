use Rattle.std.proofs.Common.{◌∙◌}
use Rattle.mir_num.specs.Numbers.{unary}
use Rattle.mir_num.proofs.Wrapped.{wrapped_neg, wrapped_not}
use Rattle.mir_num.proofs.operators.unary.Goals as goal

pub returns-in-Not : goal.returns-in-Not
unfolding unary
returns-in-Not c = rw c.in-Not.is (c.wrap.ensures ∙ wrapped_not c.args.ty c.args.a c.ranges.a.fits)

pub returns-in-Neg : goal.returns-in-Neg
unfolding unary
returns-in-Neg c = rw c.in-Neg.is (c.wrap-in-Neg.ensures ∙ wrapped_neg c.args.ty c.args.a c.ranges.a.fits)
