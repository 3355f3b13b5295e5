use Rattle.std.proofs.Common.{sym, refl, ◌∙◌}
use Rattle.mir_syntax.proofs.Binds.{some_bind, bind_gone}
use Rattle.mir_validate.proofs.inside.Inside.operand_scalar.Goals as goal

pub returns-in-Some : goal.returns-in-Some
returns-in-Some c = c.scalar.ensures ∙ sym (some_bind _ (sym c.in-Some.ensures.ty) refl)

pub returns-in-None : goal.returns-in-None
returns-in-None c = sym (bind_gone _ _ (sym c.in-None.ensures.ty))
