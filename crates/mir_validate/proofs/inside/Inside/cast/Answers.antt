use Rattle.std.proofs.Common.{sym, refl, ◌∙◌}
use Rattle.mir_syntax.proofs.Binds.{some_bind, bind_gone}
use Rattle.mir_validate.proofs.inside.Inside.cast.Goals as goal

pub returns-in_err-a-clause-ty : goal.returns-in_err-a-clause-ty
returns-in_err-a-clause-ty c = rw c.from_residual.ensures (sym (bind_gone _ _ (sym c.in_err-a.ensures.ty)))

pub returns-clause-ty : goal.returns-clause-ty
returns-clause-ty c = c.cast_ty.ensures.ty ∙ sym (some_bind _ (sym c.in_ok-a.ensures.ty) refl)
