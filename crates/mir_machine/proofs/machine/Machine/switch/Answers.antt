use Rattle.std.proofs.Common.{◌∙◌, sym, ap, Some}
use Rattle.mir_semantics.specs.Step.{on}
use Rattle.mir_meaning.specs.Views.{memory_of}
use Rattle.mir_meaning.specs.Sight.{here_of}
use Rattle.mir_meaning.proofs.Binds.{stopped}
use Rattle.mir_machine.specs.Seen.{code_in, control_in, state_in}
use Rattle.mir_machine.proofs.Ending.{switch_gone, switch_done}
use Rattle.mir_machine.proofs.machine.Machine.switch.Goals as goal

pub returns-in_err-bits-clause-goes : goal.returns-in_err-bits-clause-goes
returns-in_err-bits-clause-goes c =
    stopped c.in_err-bits.field-0.0 c.read_number.result c.from_residual.result _ _ _ _ c.in_err-bits.was c.from_residual.ensures.1 c.read_number.ensures
    (switch_gone (code_in c.args.here.program.now) (here_of c.args.here) (state_in c.args.here.program.now c.args.self.now) c.args.operand.now c.args.arms.now c.args.otherwise)

pub returns-clause-goes : goal.returns-clause-goes
returns-clause-goes c =
    switch_done (code_in c.args.here.program.now) (here_of c.args.here) (state_in c.args.here.program.now c.args.self.now) c.args.operand.now c.args.arms.now c.args.otherwise c.in_ok-bits.bits c.take_arm.result (memory_of c.read_number.new.memory) (control_in c.args.here.program.now c.go_to.new.self.top)
    c.in_ok-bits.ensures c.take_arm.ensures (c.go_to.ensures.top c.args.here.program.now)
    ∙ ap (λ m. Some (on (state_in c.args.here.program.now m))) (sym c.go_to.ensures.others)
