use Rattle.std.proofs.Common.{◌∙◌, sym, ap}
use Rattle.mir_num.specs.Numbers as num
use Rattle.mir_syntax.proofs.Binds.{bind_at, bind_gone}
use Rattle.const_flow.specs.declared.cell.Cell.TheVariants.{Num}
use Rattle.const_flow.specs.Facts.{outcome, wrapped_of, flag_of}
use Rattle.const_flow.proofs.sight.Sight.overflow_of.Goals as goal

pub returns-in-Some-clause-wrapped : goal.returns-in-Some-clause-wrapped
unfolding wrapped_of
returns-in-Some-clause-wrapped c =
    ap (λ r. Num r.0) c.over_scalar-bits.ensures ∙ sym (ap outcome (bind_at _ c.in-Some.ty _ (sym c.scalar_ty.ensures ∙ c.in-Some.is)))

pub returns-in-Some-clause-over : goal.returns-in-Some-clause-over
unfolding flag_of
returns-in-Some-clause-over c =
    ap Num (c.flag.ensures ∙ ap (λ r. num.flag r.1) c.over_scalar-bits.ensures) ∙ sym (ap outcome (bind_at _ c.in-Some.ty _ (sym c.scalar_ty.ensures ∙ c.in-Some.is)))

pub returns-in-None-clause-wrapped : goal.returns-in-None-clause-wrapped
unfolding wrapped_of
returns-in-None-clause-wrapped c = sym (ap outcome (bind_gone _ _ (sym c.scalar_ty.ensures ∙ c.in-None.is)))

pub returns-in-None-clause-over : goal.returns-in-None-clause-over
unfolding flag_of
returns-in-None-clause-over c = sym (ap outcome (bind_gone _ _ (sym c.scalar_ty.ensures ∙ c.in-None.is)))
