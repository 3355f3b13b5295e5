use Rattle.std.proofs.Common.{◌∙◌, sym, ap, Some, None}
use Rattle.std.specs.Option.{option_map}
use Rattle.mir_syntax.specs.Tree.{trees_of, node}
use Rattle.mir_semantics.specs.Step.{variant_in, left_at}
use Rattle.mir_meaning.specs.Programs.{shapes_in, type_in}
use Rattle.mir_meaning.specs.Views.{memory_of, addr_of, part_of}
use Rattle.mir_machine.proofs.DropsOn.{left_plain, left_nothing, left_struct, left_enum}
use Rattle.mir_machine.proofs.drops.active_left.Goals as goal

pub returns-in_default-ty : goal.returns-in_default-ty
returns-in_default-ty c = ap (λ t. option_map variant_in (left_at (shapes_in c.args.program.now) (memory_of c.args.memory.now) (addr_of c.args.visit.now.at) t)) c.in-Some.ensures.stands ∙ left_plain (shapes_in c.args.program.now) (memory_of c.args.memory.now) (addr_of c.args.visit.now.at) (trees_of c.args.program.now.types) c.in-Some.ty.now c.in_default-ty.not-Named

pub returns-in_default-get : goal.returns-in_default-get
returns-in_default-get c = left_nothing c.args.program.now (memory_of c.args.memory.now) (addr_of c.args.visit.now.at) (type_in c.args.program.now c.args.visit.now.ty) c.in-Named.def (c.in-Some.ensures.stands ∙ ap (node (trees_of c.args.program.now.types)) c.in-Named.is) (sym c.in_default-get.ensures)

pub returns-then-not-def : goal.returns-then-not-def
returns-then-not-def c = left_struct c.args.program.now (memory_of c.args.memory.now) (addr_of c.args.visit.now.at) (type_in c.args.program.now c.args.visit.now.ty) c.in-Named.def c.in-Some-get.def.now (c.in-Some.ensures.stands ∙ ap (node (trees_of c.args.program.now.types)) c.in-Named.is) (sym c.in-Some-get.ensures) c.if-not-def.true

pub returns-in_default-behind : goal.returns-in_default-behind
returns-in_default-behind c = left_enum c.args.program.now (memory_of c.args.memory.now) (addr_of c.args.visit.now.at) (type_in c.args.program.now c.args.visit.now.ty) c.in-Named.def c.in-Some-get.def.now None (c.in-Some.ensures.stands ∙ ap (node (trees_of c.args.program.now.types)) c.in-Named.is) (sym c.in-Some-get.ensures) c.if-not-def.false c.in_default-behind.ensures

pub returns : goal.returns
returns c = left_enum c.args.program.now (memory_of c.args.memory.now) (addr_of c.args.visit.now.at) (type_in c.args.program.now c.args.visit.now.ty) c.in-Named.def c.in-Some-get.def.now (Some (part_of c.in-Some-behind.part)) (c.in-Some.ensures.stands ∙ ap (node (trees_of c.args.program.now.types)) c.in-Named.is) (sym c.in-Some-get.ensures) c.if-not-def.false c.in-Some-behind.ensures ∙ ap Some (sym c.variant.ensures)
