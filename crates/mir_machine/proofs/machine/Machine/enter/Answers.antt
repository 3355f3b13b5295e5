use Rattle.std.proofs.Common.{arith, suc, ◌+◌, ◌∷◌, ◌≡◌, ◌∙◌, sym, ap, map}
use Rattle.std.specs.Prelude.{reverse}
use Rattle.std.specs.Option.{option_map}
use Rattle.mir_syntax.specs.Tree.{trees_of}
use Rattle.mir_syntax.specs.Crate.{body_of}
use Rattle.mir_semantics.specs.Step.{new_slots}
use Rattle.mir_meaning.specs.Programs.{shapes_in, type_in}
use Rattle.mir_meaning.specs.Views.{value_of, memory_of}
use Rattle.mir_machine.specs.Seen.{code_in, control_in, dest_in, state_in}
use Rattle.mir_machine.proofs.Entering.{enter_nowhere, enter_there, body_nowhere, body_there, newest_first}
use Rattle.mir_machine.proofs.machine.Machine.enter.Goals as goal

pub returns-in_default-clause-goes : goal.returns-in_default-clause-goes
returns-in_default-clause-goes c =
    enter_nowhere (code_in c.args.program.now) (state_in c.args.program.now c.args.self.now) (memory_of c.args.self.now.memory) (control_in c.args.program.now c.args.self.now.top) c.args.function.0 (map value_of c.args.args) (option_map (dest_in c.args.program.now) c.args.dest)
    (body_nowhere c.args.program.now c.args.function.0 (sym c.in_default.ensures))

pub returns-clause-goes : goal.returns-clause-goes
returns-clause-goes c =
    enter_there (code_in c.args.program.now) (state_in c.args.program.now c.args.self.now) (memory_of c.args.self.now.memory) (memory_of c.open.new.self) (control_in c.args.program.now c.args.self.now.top) (control_in c.args.program.now c.replace-caller.new.dest) c.args.function.0 (map value_of c.args.args) (map value_of c.in_ok-slots.slots) (option_map (dest_in c.args.program.now) c.args.dest)
    (body_of (trees_of c.args.program.now.types) c.in-Some.callee.now.body) (map (control_in c.args.program.now) (reverse c.push.new.self)) (c.args.self.now.last + 1)
    (body_there c.args.program.now c.args.function.0 c.in-Some.callee.now (sym c.in-Some.ensures))
    (c.in_ok-slots.ensures ∙ ap (λ l. new_slots (shapes_in c.args.program.now) (map (type_in c.args.program.now) l) (map value_of c.args.args)) c.as_slice.ensures)
    (let one : c.args.self.now.last + 1 ≡ suc c.args.self.now.last = omega arith in one) c.in_ok-open.ensures
    (ap (λ l. map (control_in c.args.program.now) (reverse l)) c.in_ok-push.ensures.ok ∙ (newest_first (control_in c.args.program.now) c.args.self.now.callers c.replace-caller.result ∙ ap (λ x. control_in c.args.program.now x ∷ map (control_in c.args.program.now) (reverse c.args.self.now.callers)) c.replace-caller.ensures.value))
    (ap (control_in c.args.program.now) c.replace-caller.ensures.after)
