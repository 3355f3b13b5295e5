use Rattle.std.proofs.Common.{sym}
use Rattle.mir_syntax.specs.Tree.{trees_of}
use Rattle.mir_validate.proofs.Seeing.{other_scalar}
use Rattle.mir_validate.proofs.inside.Inside.scalar_in_table.Goals as goal

pub returns-in_default : goal.returns-in_default
returns-in_default c =
    rw c.ty.ensures.stands (sym (other_scalar (trees_of c.args.self.now.program.now.types) c.ty.result.now c.in_default.not-Scalar))
