use Rattle.std.proofs.Common.{◌∙◌, sym, ap}
use Rattle.mir_syntax.specs.Tree.{trees_of}
use Rattle.mir_semantics.specs.Step.{scalar_in}
use Rattle.const_flow.proofs.Types.{other_scalar}
use Rattle.const_flow.proofs.scalar.scalar_of.Goals as goal

pub returns-in_default-ty : goal.returns-in_default-ty
returns-in_default-ty c = other_scalar (trees_of c.args.program.now.types) c.in-Some.ty.now c.in_default-ty.not-Scalar ∙ sym (ap scalar_in c.in-Some.ensures.stands)
