use Rattle.std.proofs.Common.{◌∙◌, sym, ap, refl}
use Rattle.std.specs.Option.{option_map}
use Rattle.mir_meaning.specs.Sight.{here_of}
use Rattle.mir_meaning.proofs.Binds.{gives_same, stopped}
use Rattle.mir_machine.specs.Seen.{code_in, control_in, dropping_in, state_in}
use Rattle.mir_machine.proofs.DropsOn.{dropped_more, dropped_gone, dropped_first}
use Rattle.mir_machine.proofs.machine.Machine.drop_step.Goals as goal

pub returns-in-Some-clause-goes : goal.returns-in-Some-clause-goes
returns-in-Some-clause-goes c =
    gives_same _ _ _ _ (dropped_more (code_in c.args.here.program.now) (here_of c.args.here) (state_in c.args.here.program.now c.args.self.now) c.args.place.now c.args.target (dropping_in c.args.here.program.now c.in-Some.dropping) (option_map (dropping_in c.args.here.program.now) c.replace-begun.new.dest) (control_in c.args.here.program.now (record c.args.self.now.top { dropping = c.replace-begun.new.dest })) (ap (option_map (dropping_in c.args.here.program.now)) (sym c.replace-begun.ensures.value ∙ c.in-Some.is)) refl) c.work_off.ensures.goes

pub returns-in_err-first-in-None-clause-goes : goal.returns-in_err-first-in-None-clause-goes
returns-in_err-first-in-None-clause-goes c =
    stopped c.in_err-first-in-None.field-0.0 c.begin.result c.from_residual.result _ _ _ _ c.in_err-first-in-None.was c.from_residual.ensures.1 c.begin.ensures (dropped_gone (code_in c.args.here.program.now) (here_of c.args.here) (state_in c.args.here.program.now c.args.self.now) c.args.place.now c.args.target (ap (option_map (dropping_in c.args.here.program.now)) (sym c.replace-begun.ensures.value ∙ c.in-None.is)))

pub returns-in_ok-first-in-None-clause-goes : goal.returns-in_ok-first-in-None-clause-goes
returns-in_ok-first-in-None-clause-goes c =
    gives_same _ _ _ _ (dropped_first (code_in c.args.here.program.now) (here_of c.args.here) (state_in c.args.here.program.now c.args.self.now) c.args.place.now c.args.target (dropping_in c.args.here.program.now c.in_ok-first-in-None.first) (option_map (dropping_in c.args.here.program.now) c.replace-begun.new.dest) (control_in c.args.here.program.now (record c.args.self.now.top { dropping = c.replace-begun.new.dest })) (ap (option_map (dropping_in c.args.here.program.now)) (sym c.replace-begun.ensures.value ∙ c.in-None.is)) c.in_ok-first-in-None.ensures refl) c.work_off-in-None.ensures.goes
