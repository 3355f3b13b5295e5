use Rattle.std.proofs.Common.{sym}
use Rattle.mir_syntax.specs.Tree.{trees_of}
use Rattle.mir_rules.specs.Same.{same_tree}
use Rattle.mir_validate.proofs.Seeing.{not_scalar}
use Rattle.mir_validate.proofs.inside.Inside.is_scalar.Goals as goal

pub returns-in-Scalar : goal.returns-in-Scalar
unfolding same_tree
returns-in-Scalar c =
    rw (c.ty.ensures.stands, c.in-Scalar.is) c.same_scalar.ensures

pub returns-in_default : goal.returns-in_default
returns-in_default c =
    rw c.ty.ensures.stands (sym (not_scalar (trees_of c.args.self.now.program.now.types) c.args.scalar c.ty.result.now c.in_default.not-Scalar))
