use Rattle.std.proofs.Common.{sym}
use Rattle.mir_syntax.specs.Tree.{trees_of}
use Rattle.drop_tables.proofs.HeadersOf.{scalar_not}
use Rattle.drop_tables.proofs.header.is_scalar.Goals as goal

pub returns-in_default : goal.returns-in_default
returns-in_default c = rw c.ty.ensures.stands (sym (scalar_not (trees_of c.args.program.now.types) c.ty.result.now c.in_default.not-Scalar))
