use Rattle.std.proofs.Common.{◌∙◌, sym, ap}
use Rattle.mir_semantics.specs.Step.{scalar_ty_of}
use Rattle.const_flow.specs.Sights.{text_of}
use Rattle.const_flow.proofs.Types.{const_scalar}
use Rattle.const_flow.proofs.scalar.scalar_ty.Goals as goal

pub returns-in-Const : goal.returns-in-Const
returns-in-Const c =
    let h = text_of c.args.program.now c.args.body.now in
    c.const_scalar.ensures ∙ (const_scalar h c.in-Const.value ∙ sym (ap (scalar_ty_of h) c.in-Const.is))
