use Rattle.std.proofs.Common.{◌∙◌, sym}
use Rattle.mir_meaning.specs.Programs.{shapes_in, type_in}
use Rattle.mir_meaning.proofs.IdTypes.{parts_if_some, parts_if_none}
use Rattle.mir_meaning.proofs.types.plain_fields.Goals as goal

pub returns-then-is_some : goal.returns-then-is_some
returns-then-is_some c = parts_if_some (shapes_in c.args.program.now) (type_in c.args.program.now c.args.id) c.args.def c.destructor.result c.requires.named c.destructor.ensures (sym c.is_some.ensures ∙ c.if-is_some.true)

pub returns : goal.returns
returns c = c.struct_fields.ensures.fields ∙ parts_if_none (shapes_in c.args.program.now) (type_in c.args.program.now c.args.id) c.args.def c.destructor.result c.requires.named c.destructor.ensures (sym c.is_some.ensures ∙ c.if-is_some.false)
