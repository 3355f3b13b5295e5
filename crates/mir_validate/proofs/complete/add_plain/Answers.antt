use Rattle.mir_syntax.specs.declared.types.Ty.TheVariants as ty
use Rattle.mir_syntax.specs.declared.types.ScalarTy.TheVariants as scalar_ty
use Rattle.mir_syntax.specs.declared.types.IntTy.TheVariants as int_ty
use Rattle.mir_validate.proofs.Completing.{has_on}
use Rattle.mir_validate.proofs.complete.add_plain.Goals as goal

pub returns-clause-bool : goal.returns-clause-bool
returns-clause-bool c =
    let first = c.add.new.program.types in
    let second = c.add-2.new.program.types in
    let t = ty.Scalar scalar_ty.Bool in
    has_on second c.add-3.new.program.types t c.in_ok-add-3.ensures.grown.types (has_on first second t c.in_ok-add-2.ensures.grown.types c.in_ok-add.ensures.has)

pub returns-clause-isize : goal.returns-clause-isize
returns-clause-isize c = has_on c.add-2.new.program.types c.add-3.new.program.types (ty.Scalar (scalar_ty.Int int_ty.Isize)) c.in_ok-add-3.ensures.grown.types c.in_ok-add-2.ensures.has
