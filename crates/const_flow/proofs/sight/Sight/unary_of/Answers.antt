use Rattle.std.proofs.Common.{◌∙◌, sym, ap, Some}
use Rattle.mir_syntax.proofs.Binds.{bind_at, bind_gone}
use Rattle.const_flow.specs.Facts.{unary_of}
use Rattle.const_flow.proofs.sight.Sight.unary_of.Goals as goal

pub returns-in_err-scalar_ty : goal.returns-in_err-scalar_ty
unfolding unary_of
returns-in_err-scalar_ty c = c.from_residual.ensures ∙ sym (bind_gone _ _ (sym c.scalar_ty.ensures ∙ c.in_err-scalar_ty.was))

pub returns : goal.returns
unfolding unary_of
returns c = ap Some c.unary.ensures ∙ sym (bind_at _ c.in_ok-scalar_ty.field-0 _ (sym c.scalar_ty.ensures ∙ c.in_ok-scalar_ty.was))
