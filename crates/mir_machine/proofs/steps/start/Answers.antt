use Rattle.std.proofs.Common.{◌∙◌, ◌++◌, refl, ap, map}
use Rattle.mir_semantics.specs.Memory.{open_frame}
use Rattle.mir_meaning.specs.Views.{value_of, memory_of}
use Rattle.mir_machine.proofs.Starting.{started, framed_start}
use Rattle.mir_machine.proofs.steps.start.Goals as goal

pub returns-clause-starts : goal.returns-clause-starts
returns-clause-starts c =
    started c.args.program.now (memory_of c.open.new.self) c.new.result c.extend.new.self c.args.answers.now c.new-2.result c.args.entry.now (map value_of c.in_ok-slots.slots)
    (c.in_ok-open.ensures ∙ ap (λ m. open_frame m 0 (map value_of c.in_ok-slots.slots)) c.new-memory.ensures) c.in_ok-slots.ensures c.new.ensures
    (c.in_ok-extend.ensures.ok ∙ ap (λ l. l ++ c.args.answers.now) c.in_ok-kept.ensures) c.new-2.ensures

pub returns-clause-framed : goal.returns-clause-framed
returns-clause-framed c =
    framed_start _ (map value_of c.in_ok-slots.slots) (c.in_ok-open.ensures ∙ ap (λ m. open_frame m 0 (map value_of c.in_ok-slots.slots)) c.new-memory.ensures) refl c.new.ensures refl
