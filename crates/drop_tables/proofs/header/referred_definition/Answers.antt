use Rattle.std.proofs.Common.{sym}
use Rattle.mir_syntax.specs.Tree.{trees_of}
use Rattle.drop_tables.proofs.HeadersOf.{dropped_not, dropped_other}
use Rattle.drop_tables.proofs.header.referred_definition.Goals as goal

pub returns-in_default : goal.returns-in_default
returns-in_default c = rw c.ty.ensures.stands (sym (dropped_not (trees_of c.args.program.now.types) c.ty.result.now c.in_default.not-RefMut))

pub returns-in_default-ty : goal.returns-in_default-ty
returns-in_default-ty c =
    rw (c.ty.ensures.stands, c.in-RefMut.is, c.ty-2.ensures.stands) (sym (dropped_other (trees_of c.args.program.now.types) c.ty-2.result.now c.in_default-ty.not-Named))
