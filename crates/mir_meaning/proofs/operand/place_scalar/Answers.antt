use Rattle.std.proofs.Common.{◌∙◌, sym}
use Rattle.mir_semantics.specs.Step.{scalar_ty_of, operand_ty, scalar_in}
use Rattle.mir_meaning.specs.Programs.{type_in}
use Rattle.mir_syntax.proofs.Binds.{bind_at, bind_gone}
use Rattle.mir_meaning.proofs.operand.place_scalar.Goals as goal

pub returns-in_default-clause-copied : goal.returns-in_default-clause-copied
unfolding scalar_ty_of operand_ty
returns-in_default-clause-copied c = sym (bind_gone _ scalar_in (sym c.in_default.ensures))

pub returns-in_default-clause-moved : goal.returns-in_default-clause-moved
unfolding scalar_ty_of operand_ty
returns-in_default-clause-moved c = sym (bind_gone _ scalar_in (sym c.in_default.ensures))

pub returns-clause-copied : goal.returns-clause-copied
unfolding scalar_ty_of operand_ty
returns-clause-copied c = c.scalar_of.ensures ∙ sym (bind_at _ (type_in c.args.here.program.now c.in-Some.id) scalar_in (sym c.in-Some.ensures))

pub returns-clause-moved : goal.returns-clause-moved
unfolding scalar_ty_of operand_ty
returns-clause-moved c = c.scalar_of.ensures ∙ sym (bind_at _ (type_in c.args.here.program.now c.in-Some.id) scalar_in (sym c.in-Some.ensures))
