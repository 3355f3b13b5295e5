use Rattle.std.proofs.Common.{◌∙◌, sym, ap, Some}
use Rattle.mir_semantics.specs.Memory.{write}
use Rattle.mir_meaning.specs.Programs.{shapes_in}
use Rattle.mir_meaning.specs.Views.{memory_of, value_of, part_of, address}
use Rattle.mir_meaning.proofs.Execs.{store_gone, store_refused, store_done}
use Rattle.mir_machine.specs.Seen.{dest_in}
use Rattle.mir_machine.proofs.dest.store.Goals as goal

pub returns-in_default : goal.returns-in_default
returns-in_default c = store_gone (shapes_in c.args.program.now) (memory_of c.args.memory.now) (dest_in c.args.program.now c.args.dest.now) (value_of c.args.value) (sym c.in_default.ensures)

pub returns-then-not-allows : goal.returns-then-not-allows
returns-then-not-allows c = store_refused (shapes_in c.args.program.now) (memory_of c.args.memory.now) (dest_in c.args.program.now c.args.dest.now) (part_of c.in-Some.old) (value_of c.args.value) (sym c.in-Some.ensures) (sym c.allows.ensures ∙ c.if-not-allows.true)

pub returns : goal.returns
returns c =
    store_done (shapes_in c.args.program.now) (memory_of c.args.memory.now) (dest_in c.args.program.now c.args.dest.now) (part_of c.in-Some.old) (value_of c.args.value) (sym c.in-Some.ensures) (sym c.allows.ensures ∙ c.if-not-allows.false)
    ∙ ap Some (sym (c.write.ensures ∙ ap (λ ps. write (memory_of c.args.memory.now) (address c.args.dest.now.at.frame c.args.dest.now.at.local ps) (value_of c.args.value)) c.as_slice.ensures))
