use Rattle.std.proofs.Common.{◌∙◌, sym, ap}
use Rattle.mir_syntax.specs.Tree.{trees_of}
use Rattle.mir_semantics.specs.Step.{scalar_in}
use Rattle.mir_meaning.proofs.IdTypes.{other_scalar}
use Rattle.mir_meaning.proofs.operand.scalar_of.Goals as goal

pub returns-in_default-ty : goal.returns-in_default-ty
returns-in_default-ty c = sym (ap scalar_in c.in-Some.ensures.stands ∙ other_scalar (trees_of c.args.program.now.types) c.in-Some.ty.now c.in_default-ty.not-Scalar)
