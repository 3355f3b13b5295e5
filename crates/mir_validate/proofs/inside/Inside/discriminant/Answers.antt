use Rattle.std.proofs.Common.{sym, true, false, ◌∙◌}
use Rattle.mir_syntax.specs.Tree.{trees_of, at_id}
use Rattle.mir_syntax.proofs.Binds.{some_bind, bind_gone}
use Rattle.mir_validate.specs.Inside.{shapes}
use Rattle.mir_validate.proofs.PartTypes.{discriminant_is}
use Rattle.mir_validate.proofs.inside.Inside.discriminant.Goals as goal

pub returns-in_err-id-clause-ty : goal.returns-in_err-id-clause-ty
returns-in_err-id-clause-ty c = rw c.from_residual.ensures (sym (bind_gone _ _ (sym c.in_err-id.ensures.ty)))

pub returns-then-is_enum-clause-ty : goal.returns-then-is_enum-clause-ty
returns-then-is_enum-clause-ty c =
    let p = c.args.self.now.program.now in
    sym (some_bind _ (sym c.in_ok-id.ensures.ty) (discriminant_is (shapes p) (at_id (trees_of p.types) c.in_ok-id.id) true (sym c.is_enum.ensures ∙ c.if-is_enum.true)))

pub returns-else-is_enum-clause-ty : goal.returns-else-is_enum-clause-ty
returns-else-is_enum-clause-ty c =
    let p = c.args.self.now.program.now in
    sym (some_bind _ (sym c.in_ok-id.ensures.ty) (discriminant_is (shapes p) (at_id (trees_of p.types) c.in_ok-id.id) false (sym c.is_enum.ensures ∙ c.if-is_enum.false)))
