use Rattle.std.proofs.Common.{◌∙◌, sym, ap}
use Rattle.std.specs.Option.{option_map}
use Rattle.mir_syntax.specs.Tree.{at_id, trees_of}
use Rattle.const_flow.proofs.Types.{scalar_there, scalar_gone, moved_scalar}
use Rattle.const_flow.proofs.scalar.place_scalar.Goals as goal

pub returns-in_err-place_ty-clause-copied : goal.returns-in_err-place_ty-clause-copied
returns-in_err-place_ty-clause-copied c =
    c.from_residual.ensures ∙ scalar_gone c.args.program.now c.args.body.now c.args.place.now (sym (ap (option_map (at_id (trees_of c.args.program.now.types))) c.in_err-place_ty.was) ∙ c.place_ty.ensures.ty)

pub returns-in_err-place_ty-clause-moved : goal.returns-in_err-place_ty-clause-moved
returns-in_err-place_ty-clause-moved c =
    c.from_residual.ensures ∙ scalar_gone c.args.program.now c.args.body.now c.args.place.now (sym (ap (option_map (at_id (trees_of c.args.program.now.types))) c.in_err-place_ty.was) ∙ c.place_ty.ensures.ty)
    ∙ moved_scalar c.args.program.now c.args.body.now c.args.place.now

pub returns-clause-copied : goal.returns-clause-copied
returns-clause-copied c =
    c.scalar_of.ensures ∙ scalar_there c.args.program.now c.args.body.now c.args.place.now c.in_ok-place_ty.field-0 (sym (ap (option_map (at_id (trees_of c.args.program.now.types))) c.in_ok-place_ty.was) ∙ c.place_ty.ensures.ty)

pub returns-clause-moved : goal.returns-clause-moved
returns-clause-moved c =
    c.scalar_of.ensures ∙ scalar_there c.args.program.now c.args.body.now c.args.place.now c.in_ok-place_ty.field-0 (sym (ap (option_map (at_id (trees_of c.args.program.now.types))) c.in_ok-place_ty.was) ∙ c.place_ty.ensures.ty)
    ∙ moved_scalar c.args.program.now c.args.body.now c.args.place.now
