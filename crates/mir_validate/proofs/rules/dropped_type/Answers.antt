use Rattle.std.proofs.Common.{sym, ap, ◌∙◌}
use Rattle.std.specs.Option.{option_map}
use Rattle.mir_syntax.specs.Tree.{named, trees_of}
use Rattle.mir_validate.proofs.Earlier.{dropped_is}
use Rattle.mir_validate.proofs.rules.dropped_type.Goals as goal

pub returns-clause-ty : goal.returns-clause-ty
returns-clause-ty c =
    let trees = trees_of c.args.program.now.types in
    let d = c.in_ok-drop_of.field-0 in
    c.pointee.ensures.ty ∙ (dropped_is trees c.args.function.now d c.in_ok-get.field-0.now (sym c.in_ok-drop_of.ensures) (sym c.in_ok-get.ensures) ∙ ap (option_map named) c.in_ok-drop_of.ensures)
