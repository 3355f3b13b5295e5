use Rattle.std.proofs.Common.{Some, sym, ap, ◌∙◌}
use Rattle.mir_syntax.specs.Tree.{trees_of}
use Rattle.mir_validate.specs.Inside.{seen_tree}
use Rattle.mir_validate.proofs.Operators.{binary_is}
use Rattle.mir_validate.proofs.inside.Inside.binary_ty.Goals as goal

pub returns-in-Some-Some-clause-ty : goal.returns-in-Some-Some-clause-ty
returns-in-Some-Some-clause-ty c =
    let trees = trees_of c.args.self.now.program.now.types in
    let taken = sym c.takes.ensures ∙ c.if-takes.true in
    rw (binary_is c.args.op (seen_tree trees c.args.a) (seen_tree trees c.args.b) c.in-Some-Some.a c.in-Some-Some.b (sym c.in-Some-Some.ensures) (sym c.in-Some-Some.ensures'), taken) (ap Some c.made_by.ensures)
