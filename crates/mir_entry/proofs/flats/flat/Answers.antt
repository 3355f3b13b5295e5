use Rattle.mir_meaning.specs.Programs.{type_in}
use Rattle.mir_meaning.specs.Views.{value_of}
use Rattle.mir_entry.proofs.FlatDefs.{flat_some, flat_none}
use Rattle.mir_entry.proofs.flats.flat.Goals as goal

pub returns-then-branch : goal.returns-then-branch
returns-then-branch c =
    flat_some c.args.program.now (type_in c.args.program.now c.args.id) (value_of c.args.value.now) c.len.result c.in_ok-push_value.field-0 c.new-out.result c.push_value.new.out c.len.ensures c.new-out.ensures c.in_ok-push_value.ensures c.if-branch.true

pub returns-else-branch : goal.returns-else-branch
returns-else-branch c =
    flat_none c.args.program.now (type_in c.args.program.now c.args.id) (value_of c.args.value.now) c.len.result c.in_ok-push_value.field-0 c.new-out.result c.push_value.new.out c.len.ensures c.new-out.ensures c.in_ok-push_value.ensures c.if-branch.false
