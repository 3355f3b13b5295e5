use Rattle.std.proofs.Common.{◌∙◌, sym, ap, Some}
use Rattle.mir_semantics.specs.Step.{on, finish}
use Rattle.mir_meaning.specs.Sight.{here_of}
use Rattle.mir_meaning.proofs.Binds.{stopped, gives_same}
use Rattle.mir_machine.specs.Seen.{code_in, control_in, state_in}
use Rattle.mir_machine.proofs.Ending.{goto_done, drop_is, return_is, unreachable_is}
use Rattle.mir_machine.proofs.machine.Machine.terminate.Goals as goal

pub returns-in_err-drop_step-in-Drop-clause-goes : goal.returns-in_err-drop_step-in-Drop-clause-goes
returns-in_err-drop_step-in-Drop-clause-goes c =
    stopped c.in_err-drop_step-in-Drop.field-0.0 c.drop_step.result c.from_residual-in_err-drop_step-in-Drop.result _ _ _ _ c.in_err-drop_step-in-Drop.was c.from_residual-in_err-drop_step-in-Drop.ensures.1 c.drop_step.ensures.goes
    (λ gone. ap (finish (code_in c.args.here.program.now) (here_of c.args.here) (state_in c.args.here.program.now c.args.self.now)) c.in-Drop.is ∙ (drop_is (code_in c.args.here.program.now) (here_of c.args.here) (state_in c.args.here.program.now c.args.self.now) c.in-Drop.place c.in-Drop.block ∙ gone))

pub returns-in-Goto-clause-goes : goal.returns-in-Goto-clause-goes
returns-in-Goto-clause-goes c =
    ap (finish (code_in c.args.here.program.now) (here_of c.args.here) (state_in c.args.here.program.now c.args.self.now)) c.in-Goto.is
    ∙ (goto_done (code_in c.args.here.program.now) (here_of c.args.here) (state_in c.args.here.program.now c.args.self.now) c.in-Goto.block (control_in c.args.here.program.now c.go_to.new.self.top) (c.go_to.ensures.top c.args.here.program.now)
    ∙ ap (λ m. Some (on (state_in c.args.here.program.now m))) (sym c.go_to.ensures.others))

pub returns-in_ok-drop_step-in-Drop-clause-goes : goal.returns-in_ok-drop_step-in-Drop-clause-goes
returns-in_ok-drop_step-in-Drop-clause-goes c =
    ap (finish (code_in c.args.here.program.now) (here_of c.args.here) (state_in c.args.here.program.now c.args.self.now)) c.in-Drop.is
    ∙ (drop_is (code_in c.args.here.program.now) (here_of c.args.here) (state_in c.args.here.program.now c.args.self.now) c.in-Drop.place c.in-Drop.block ∙ c.in_ok-drop_step-in-Drop.ensures.goes)

pub returns-in-Return-clause-goes : goal.returns-in-Return-clause-goes
returns-in-Return-clause-goes c =
    gives_same _ _ _ _ (ap (finish (code_in c.args.here.program.now) (here_of c.args.here) (state_in c.args.here.program.now c.args.self.now)) c.in-Return.is ∙ return_is (code_in c.args.here.program.now) (here_of c.args.here) (state_in c.args.here.program.now c.args.self.now) c.requires.frame) c.finish_frame.ensures.goes

pub returns-in-Unreachable-clause-goes : goal.returns-in-Unreachable-clause-goes
returns-in-Unreachable-clause-goes c =
    ap (finish (code_in c.args.here.program.now) (here_of c.args.here) (state_in c.args.here.program.now c.args.self.now)) c.in-Unreachable.is ∙ unreachable_is (code_in c.args.here.program.now) (here_of c.args.here) (state_in c.args.here.program.now c.args.self.now)
