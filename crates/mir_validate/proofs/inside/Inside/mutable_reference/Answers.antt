use Rattle.std.proofs.Common.{sym, refl}
use Rattle.mir_syntax.proofs.Binds.{some_bind, bind_gone}
use Rattle.mir_validate.proofs.inside.Inside.mutable_reference.Goals as goal

pub returns-in_err-place_ty-clause-ty : goal.returns-in_err-place_ty-clause-ty
returns-in_err-place_ty-clause-ty c = rw c.from_residual.ensures (sym (bind_gone _ _ (sym c.in_err-place_ty.ensures.ty)))

pub returns-clause-ty : goal.returns-clause-ty
returns-clause-ty c = sym (some_bind _ (sym c.in_ok-place_ty.ensures.ty) refl)
