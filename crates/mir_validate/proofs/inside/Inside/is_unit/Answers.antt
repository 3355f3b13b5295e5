use Rattle.std.proofs.Common.{sym, ◌∙◌}
use Rattle.mir_syntax.specs.Tree.{trees_of}
use Rattle.drop_tables.proofs.HeadersOf.{not_unit, unit_is}
use Rattle.mir_validate.proofs.inside.Inside.is_unit.Goals as goal

pub returns-in-Tuple : goal.returns-in-Tuple
returns-in-Tuple c =
    rw (c.ty.ensures.stands, c.in-Tuple.is) (c.is_empty.ensures ∙ sym (unit_is (trees_of c.args.self.now.program.now.types) c.in-Tuple.parts))

pub returns-in_default : goal.returns-in_default
returns-in_default c =
    rw c.ty.ensures.stands (sym (not_unit (trees_of c.args.self.now.program.now.types) c.ty.result.now c.in_default.not-Tuple))
