use Rattle.std.proofs.Common.{◌∙◌, sym, ap, map, Some}
use Rattle.mir_syntax.specs.declared.body.Term.TheVariants as term
use Rattle.mir_semantics.specs.Step.{finish, enter}
use Rattle.mir_meaning.specs.Views.{value_of, memory_of}
use Rattle.mir_meaning.specs.Sight.{here_of}
use Rattle.mir_meaning.proofs.Binds.{stopped, gives_same}
use Rattle.mir_machine.specs.Seen.{code_in, control_in, dest_in, state_in}
use Rattle.mir_machine.specs.Ends.{outside_called}
use Rattle.mir_machine.proofs.Ending.{call_nowhere, call_lost, call_local, call_outside}
use Rattle.mir_machine.proofs.machine.Machine.call.Goals as goal

pub returns-in_err-dest-clause-goes : goal.returns-in_err-dest-clause-goes
returns-in_err-dest-clause-goes c =
    stopped c.in_err-dest.field-0.0 c.dest_of.result c.from_residual.result _ _ _ _ c.in_err-dest.was c.from_residual.ensures.1 c.dest_of.ensures
    (call_nowhere (code_in c.args.here.program.now) (here_of c.args.here) (state_in c.args.here.program.now c.args.self.now) c.args.place.now c.args.callee c.args.args.now c.args.block)

pub returns-in_err-values-clause-goes : goal.returns-in_err-values-clause-goes
returns-in_err-values-clause-goes c =
    stopped c.in_err-values.field-0.0 c.read_all.result c.from_residual-in_err-values.result _ _ _ _ c.in_err-values.was c.from_residual-in_err-values.ensures.1 c.read_all.ensures
    (call_lost (code_in c.args.here.program.now) (here_of c.args.here) (state_in c.args.here.program.now c.args.self.now) c.args.place.now c.args.callee c.args.args.now c.args.block (dest_in c.args.here.program.now c.in_ok-dest.dest) c.in_ok-dest.ensures)

pub returns-in_err-enter-in-Local-clause-goes : goal.returns-in_err-enter-in-Local-clause-goes
returns-in_err-enter-in-Local-clause-goes c =
    stopped c.in_err-enter-in-Local.field-0.0 c.enter.result c.from_residual-in_err-enter-in-Local.result _ _ _ _ c.in_err-enter-in-Local.was c.from_residual-in_err-enter-in-Local.ensures.1 c.enter.ensures.goes
    (λ gone. ap (λ g. finish (code_in c.args.here.program.now) (here_of c.args.here) (state_in c.args.here.program.now c.args.self.now) (term.Call c.args.place.now g c.args.args.now c.args.block)) c.in-Local.is
    ∙ (call_local (code_in c.args.here.program.now) (here_of c.args.here) (state_in c.args.here.program.now c.args.self.now) c.args.place.now c.in-Local.function c.args.args.now c.args.block (dest_in c.args.here.program.now c.in_ok-dest.dest) (map value_of c.in_ok-values.values) (memory_of c.read_all.new.memory) (control_in c.args.here.program.now c.go_to.new.self.top)
    c.in_ok-dest.ensures c.in_ok-values.ensures (c.go_to.ensures.top c.args.here.program.now)
    ∙ (ap (λ m. enter (code_in c.args.here.program.now) (state_in c.args.here.program.now m) (memory_of m.memory) (control_in c.args.here.program.now m.top) c.in-Local.function.0 (map value_of c.in_ok-values.values) (Some (dest_in c.args.here.program.now c.in_ok-dest.dest))) (sym c.go_to.ensures.others) ∙ gone)))

pub returns-in_ok-enter-in-Local-clause-goes : goal.returns-in_ok-enter-in-Local-clause-goes
returns-in_ok-enter-in-Local-clause-goes c =
    ap (λ g. finish (code_in c.args.here.program.now) (here_of c.args.here) (state_in c.args.here.program.now c.args.self.now) (term.Call c.args.place.now g c.args.args.now c.args.block)) c.in-Local.is
    ∙ (call_local (code_in c.args.here.program.now) (here_of c.args.here) (state_in c.args.here.program.now c.args.self.now) c.args.place.now c.in-Local.function c.args.args.now c.args.block (dest_in c.args.here.program.now c.in_ok-dest.dest) (map value_of c.in_ok-values.values) (memory_of c.read_all.new.memory) (control_in c.args.here.program.now c.go_to.new.self.top)
    c.in_ok-dest.ensures c.in_ok-values.ensures (c.go_to.ensures.top c.args.here.program.now)
    ∙ (ap (λ m. enter (code_in c.args.here.program.now) (state_in c.args.here.program.now m) (memory_of m.memory) (control_in c.args.here.program.now m.top) c.in-Local.function.0 (map value_of c.in_ok-values.values) (Some (dest_in c.args.here.program.now c.in_ok-dest.dest))) (sym c.go_to.ensures.others) ∙ c.in_ok-enter-in-Local.ensures.goes))

pub returns-in-Outside-clause-goes : goal.returns-in-Outside-clause-goes
returns-in-Outside-clause-goes c =
    gives_same _ _ _ _ (ap (λ g. finish (code_in c.args.here.program.now) (here_of c.args.here) (state_in c.args.here.program.now c.args.self.now) (term.Call c.args.place.now g c.args.args.now c.args.block)) c.in-Outside.is
    ∙ (call_outside (code_in c.args.here.program.now) (here_of c.args.here) (state_in c.args.here.program.now c.args.self.now) c.args.place.now c.in-Outside.out c.args.args.now c.args.block (dest_in c.args.here.program.now c.in_ok-dest.dest) (map value_of c.in_ok-values.values) (memory_of c.read_all.new.memory) (control_in c.args.here.program.now c.go_to.new.self.top)
    c.in_ok-dest.ensures c.in_ok-values.ensures (c.go_to.ensures.top c.args.here.program.now)
    ∙ (ap (λ m. outside_called (code_in c.args.here.program.now) (state_in c.args.here.program.now m) (dest_in c.args.here.program.now c.in_ok-dest.dest) c.in-Outside.out.0 (map value_of c.in_ok-values.values)) (sym c.go_to.ensures.others)
    ∙ ap (λ l. outside_called (code_in c.args.here.program.now) (state_in c.args.here.program.now c.go_to.new.self) (dest_in c.args.here.program.now c.in_ok-dest.dest) c.in-Outside.out.0 (map value_of l)) (sym c.as_slice.ensures)))) c.ask.ensures.goes
