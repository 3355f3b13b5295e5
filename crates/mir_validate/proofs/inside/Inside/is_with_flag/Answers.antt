use Rattle.std.proofs.Common.{sym, ◌∙◌}
use Rattle.mir_syntax.specs.declared.types.ScalarTy.TheVariants as scalar_ty
use Rattle.mir_syntax.specs.Tree.{trees_of, empty, more, scalar}
use Rattle.mir_validate.proofs.Seeing.{not_tuple, flag_is, not_flag}
use Rattle.mir_validate.proofs.inside.Inside.is_with_flag.Goals as goal

pub returns-in_default : goal.returns-in_default
returns-in_default c =
    rw c.ty.ensures.stands (sym (not_tuple (trees_of c.args.self.now.program.now.types) (scalar c.args.scalar) (more (scalar scalar_ty.Bool) empty) c.ty.result.now c.in_default.not-Tuple))

pub returns-then-is_scalar : goal.returns-then-is_scalar
returns-then-is_scalar c =
    let trees = trees_of c.args.self.now.program.now.types in
    let two = ◌∙◌ (sym c.as_slice.ensures) c.in-Some.ensures in
    let first = ◌∙◌ (sym c.is_scalar.ensures) c.if-is_scalar.true in
    rw (c.ty.ensures.stands, c.in-Tuple.is, two, flag_is trees c.args.scalar c.in-Some.value c.in-Some.flag, first) c.is_scalar-then-is_scalar.ensures

pub returns-else-is_scalar : goal.returns-else-is_scalar
returns-else-is_scalar c =
    let trees = trees_of c.args.self.now.program.now.types in
    let two = ◌∙◌ (sym c.as_slice.ensures) c.in-Some.ensures in
    let first = ◌∙◌ (sym c.is_scalar.ensures) c.if-is_scalar.false in
    rw (c.ty.ensures.stands, c.in-Tuple.is, two, flag_is trees c.args.scalar c.in-Some.value c.in-Some.flag, first) c.if-is_scalar.false

pub returns-in-None : goal.returns-in-None
returns-in-None c =
    rw (c.ty.ensures.stands, c.in-Tuple.is) (sym (not_flag (trees_of c.args.self.now.program.now.types) c.args.scalar c.in-Tuple.parts (λ a b e. c.in-None.ensures a b (c.as_slice.ensures ∙ e))))
