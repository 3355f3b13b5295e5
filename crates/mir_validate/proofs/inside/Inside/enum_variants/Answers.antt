use Rattle.std.proofs.Common.{Some, sym, ap, ◌∙◌}
use Rattle.std.specs.Option.{option_map}
use Rattle.mir_syntax.specs.Tree.{trees_of}
use Rattle.mir_validate.specs.Inside.{shapes}
use Rattle.mir_validate.specs.Codes.{variant_count}
use Rattle.mir_validate.proofs.PartTypes.{not_enum, enum_past, count_at, count_struct}
use Rattle.mir_validate.proofs.inside.Inside.enum_variants.Goals as goal

pub returns-in_default : goal.returns-in_default
returns-in_default c =
    let p = c.args.self.now.program.now in
    rw c.ty.ensures.stands (sym (ap (option_map variant_count) (not_enum (shapes p) (trees_of p.types) c.ty.result.now c.in_default.not-Named)))

pub returns-in_err-def : goal.returns-in_err-def
returns-in_err-def c =
    let p = c.args.self.now.program.now in
    rw (c.from_residual.ensures, c.ty.ensures.stands, c.in-Named.is) (sym (ap (option_map variant_count) (enum_past p c.in-Named.number (sym c.in_err-def.ensures))))

pub returns-then-def : goal.returns-then-def
returns-then-def c =
    let p = c.args.self.now.program.now in
    rw (c.ty.ensures.stands, c.in-Named.is) (ap Some c.len.ensures ∙ sym (count_at p c.in-Named.number c.in_ok-def.def.now (sym c.in_ok-def.ensures) c.if-def.true))

pub returns-else-def : goal.returns-else-def
returns-else-def c =
    let p = c.args.self.now.program.now in
    rw (c.ty.ensures.stands, c.in-Named.is) (sym (count_struct p c.in-Named.number c.in_ok-def.def.now (sym c.in_ok-def.ensures) c.if-def.false))
