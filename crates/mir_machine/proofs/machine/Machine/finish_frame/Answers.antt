use Rattle.std.proofs.Common.{◌∙◌, sym, ap}
use Rattle.mir_meaning.specs.Programs.{shapes_in}
use Rattle.mir_meaning.specs.Views.{memory_of, value_of}
use Rattle.mir_meaning.proofs.Binds.{stopped, gives_same}
use Rattle.mir_machine.specs.Seen.{state_in}
use Rattle.mir_machine.specs.Ends.{returned_to}
use Rattle.mir_machine.proofs.Ending.{ended_lost, ended_back}
use Rattle.mir_machine.proofs.machine.Machine.finish_frame.Goals as goal

pub returns-in_err-value-clause-goes : goal.returns-in_err-value-clause-goes
returns-in_err-value-clause-goes c =
    stopped c.in_err-value.field-0.0 c.result.result c.from_residual.result _ _ _ _ c.in_err-value.was c.from_residual.ensures.1 c.result.ensures (ended_lost (shapes_in c.args.program.now) (state_in c.args.program.now c.args.self.now))

pub returns-clause-goes : goal.returns-clause-goes
returns-clause-goes c =
    gives_same _ _ _ _ (ended_back (shapes_in c.args.program.now) (state_in c.args.program.now c.args.self.now) (value_of c.in_ok-value.value) (memory_of c.close.new.self.memory) c.in_ok-value.ensures c.close.ensures.memory
    ∙ ap (λ m. returned_to (shapes_in c.args.program.now) (state_in c.args.program.now m) (value_of c.in_ok-value.value)) (sym c.close.ensures.others)) c.give_back.ensures.goes
