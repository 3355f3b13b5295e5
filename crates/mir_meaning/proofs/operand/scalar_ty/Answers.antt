use Rattle.std.proofs.Common.{◌∙◌, sym, ap}
use Rattle.mir_semantics.specs.Step.{scalar_ty_of}
use Rattle.mir_meaning.specs.Sight.{here_of}
use Rattle.mir_meaning.proofs.Operands.{const_is}
use Rattle.mir_meaning.proofs.operand.scalar_ty.Goals as goal

pub returns-in-Const : goal.returns-in-Const
returns-in-Const c = c.const_scalar.ensures ∙ (const_is (here_of c.args.here) c.in-Const.value ∙ sym (ap (scalar_ty_of (here_of c.args.here)) c.in-Const.is))
