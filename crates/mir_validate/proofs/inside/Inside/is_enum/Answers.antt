use Rattle.std.proofs.Common.{sym, ap, is_some}
use Rattle.mir_syntax.specs.Tree.{trees_of}
use Rattle.mir_validate.specs.Inside.{shapes}
use Rattle.mir_validate.proofs.PartTypes.{not_enum, enum_past, enum_at}
use Rattle.mir_validate.proofs.inside.Inside.is_enum.Goals as goal

pub returns-in_default : goal.returns-in_default
returns-in_default c =
    let p = c.args.self.now.program.now in
    rw c.ty.ensures.stands (sym (ap is_some (not_enum (shapes p) (trees_of p.types) c.ty.result.now c.in_default.not-Named)))

pub returns-in-Some : goal.returns-in-Some
returns-in-Some c =
    let p = c.args.self.now.program.now in
    rw (c.ty.ensures.stands, c.in-Named.is) (sym (enum_at p c.in-Named.number c.in-Some.def.now (sym c.in-Some.ensures)))

pub returns-in-None : goal.returns-in-None
returns-in-None c =
    let p = c.args.self.now.program.now in
    rw (c.ty.ensures.stands, c.in-Named.is) (sym (ap is_some (enum_past p c.in-Named.number (sym c.in-None.ensures))))
