use Rattle.std.proofs.Common.{sym, refl, ◌∙◌}
use Rattle.mir_syntax.specs.Tree.{trees_of, at_id}
use Rattle.mir_validate.specs.Inside.{seen_tree}
use Rattle.mir_validate.proofs.Operators.{cast_is, cast_unfit}
use Rattle.mir_validate.proofs.inside.Inside.cast_ty.Goals as goal

pub returns-in_err-scalar-clause-ty : goal.returns-in_err-scalar-clause-ty
returns-in_err-scalar-clause-ty c =
    let trees = trees_of c.args.self.now.program.now.types in
    rw c.from_residual-in_err-scalar.ensures (sym (cast_unfit (at_id trees c.args.to) (seen_tree trees c.args.a) (sym c.in_err-scalar.ensures)))

pub returns-then-is_int-clause-ty : goal.returns-then-is_int-clause-ty
returns-then-is_int-clause-ty c =
    let trees = trees_of c.args.self.now.program.now.types in
    let int = sym c.is_int.ensures ∙ c.if-is_int.true in
    rw (cast_is (at_id trees c.args.to) (seen_tree trees c.args.a) c.in_ok-_from._from c.in_ok-scalar.scalar (sym c.in_ok-_from.ensures) (sym c.in_ok-scalar.ensures), int) refl

pub returns-else-is_int-clause-ty : goal.returns-else-is_int-clause-ty
returns-else-is_int-clause-ty c =
    let trees = trees_of c.args.self.now.program.now.types in
    let int = sym c.is_int.ensures ∙ c.if-is_int.false in
    rw (cast_is (at_id trees c.args.to) (seen_tree trees c.args.a) c.in_ok-_from._from c.in_ok-scalar.scalar (sym c.in_ok-_from.ensures) (sym c.in_ok-scalar.ensures), int) refl
