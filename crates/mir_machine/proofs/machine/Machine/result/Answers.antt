use Rattle.std.proofs.Common.{◌∙◌, sym, ap, Some}
use Rattle.mir_meaning.specs.Views.{memory_of, part_of}
use Rattle.mir_machine.proofs.Frames.{result_gone, result_hole, result_whole}
use Rattle.mir_machine.proofs.machine.Machine.result.Goals as goal

pub returns-in_default : goal.returns-in_default
returns-in_default c = result_gone (memory_of c.args.self.now.memory) c.args.self.now.top.frame (sym c.in_default.ensures)

pub returns-then-not-is_whole : goal.returns-then-not-is_whole
returns-then-not-is_whole c = result_hole (memory_of c.args.self.now.memory) c.args.self.now.top.frame (part_of c.in-Some.part) (sym c.in-Some.ensures) (sym c.is_whole.ensures ∙ c.if-not-is_whole.true)

pub returns : goal.returns
returns c = result_whole (memory_of c.args.self.now.memory) c.args.self.now.top.frame (part_of c.in-Some.part) (sym c.in-Some.ensures) (sym c.is_whole.ensures ∙ c.if-not-is_whole.false) ∙ ap Some (sym c.in_ok-copied.ensures)
