use Rattle.std.proofs.Common.{◌∙◌, sym, ap, Some}
use Rattle.mir_semantics.specs.Memory.{write}
use Rattle.mir_semantics.specs.Step.{on}
use Rattle.mir_meaning.specs.Programs.{shapes_in}
use Rattle.mir_meaning.specs.Views.{memory_of, addr_of, address, value_of}
use Rattle.mir_machine.specs.Seen.{control_in, dropping_in, items_in, state_in}
use Rattle.mir_machine.proofs.DropsOn.{work_more, work_nowhere, work_done_at, part_gone, items_empty, items_left}
use Rattle.mir_machine.proofs.machine.Machine.work_on.Goals as goal

pub returns-then-not-is_empty-clause-goes : goal.returns-then-not-is_empty-clause-goes
returns-then-not-is_empty-clause-goes c =
    work_more (shapes_in c.args.program.now) (state_in c.args.program.now c.args.self.now) (control_in c.args.program.now c.args.self.now.top) (dropping_in c.args.program.now c.args.dropping) (items_in c.args.program.now c.args.dropping.items)
    (items_left c.args.program.now c.args.dropping.items c.is_empty.result c.is_empty.ensures c.if-not-is_empty.true)

pub returns-then-is_none-clause-goes : goal.returns-then-is_none-clause-goes
returns-then-is_none-clause-goes c =
    work_nowhere (shapes_in c.args.program.now) (state_in c.args.program.now c.args.self.now) (control_in c.args.program.now c.args.self.now.top) (dropping_in c.args.program.now c.args.dropping) (items_in c.args.program.now c.args.dropping.items)
    (items_empty c.args.program.now c.args.dropping.items c.is_empty.result c.is_empty.ensures c.if-not-is_empty.false) (part_gone c.behind.result c.is_none.result _ c.is_none.ensures c.if-is_none.true c.behind.ensures)

pub returns-clause-goes : goal.returns-clause-goes
returns-clause-goes c =
    work_done_at (shapes_in c.args.program.now) (state_in c.args.program.now c.args.self.now) (control_in c.args.program.now c.args.self.now.top) (control_in c.args.program.now c.go_to.new.self.top) (dropping_in c.args.program.now c.args.dropping) (items_in c.args.program.now c.args.dropping.items) c.behind.result c.is_none.result (memory_of c.write.new.self)
    (items_empty c.args.program.now c.args.dropping.items c.is_empty.result c.is_empty.ensures c.if-not-is_empty.false) c.is_none.ensures c.if-is_none.false c.behind.ensures
    (c.write.ensures ∙ (ap (λ ps. write (memory_of c.args.self.now.memory) (address c.args.dropping.place.at.frame c.args.dropping.place.at.local ps) (value_of c.in_ok-blank.blank)) c.as_slice.ensures ∙ ap (write (memory_of c.args.self.now.memory) (addr_of c.args.dropping.place.at)) c.in_ok-blank.ensures))
    (c.go_to.ensures.top c.args.program.now)
    ∙ ap (λ m. Some (on (state_in c.args.program.now m))) (sym c.go_to.ensures.others)
