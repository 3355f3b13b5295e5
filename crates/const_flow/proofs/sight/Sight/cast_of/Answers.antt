use Rattle.std.proofs.Common.{◌∙◌, sym, ap, Some}
use Rattle.mir_syntax.proofs.Binds.{bind_at, bind_gone}
use Rattle.const_flow.specs.Facts.{cast_of}
use Rattle.const_flow.proofs.sight.Sight.cast_of.Goals as goal

pub returns-in_err-from : goal.returns-in_err-from
unfolding cast_of
returns-in_err-from c = c.from_residual.ensures ∙ sym (bind_gone _ _ (sym c.scalar_ty.ensures ∙ c.in_err-from.was))

pub returns-in_err-to : goal.returns-in_err-to
unfolding cast_of
returns-in_err-to c =
    c.from_residual-in_err-to.ensures ∙ sym (bind_at _ c.in_ok-from.from _ (sym c.scalar_ty.ensures ∙ c.in_ok-from.was) ∙ bind_gone _ _ (sym c.scalar_of.ensures ∙ c.in_err-to.was))

pub returns : goal.returns
unfolding cast_of
returns c =
    ap Some c.cast_scalar.ensures ∙ sym (bind_at _ c.in_ok-from.from _ (sym c.scalar_ty.ensures ∙ c.in_ok-from.was) ∙ bind_at _ c.in_ok-to.to _ (sym c.scalar_of.ensures ∙ c.in_ok-to.was))
