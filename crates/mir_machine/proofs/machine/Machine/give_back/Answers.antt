use Rattle.std.proofs.Common.{◌∙◌, sym, ap, map}
use Rattle.std.specs.Prelude.{reverse}
use Rattle.std.specs.Option.{option_map}
use Rattle.mir_meaning.specs.Programs.{shapes_in}
use Rattle.mir_meaning.specs.Views.{value_of, memory_of}
use Rattle.mir_meaning.proofs.Binds.{stopped}
use Rattle.mir_machine.specs.Seen.{control_in, dest_in, state_in}
use Rattle.mir_machine.proofs.Entering.{newest_first}
use Rattle.mir_machine.proofs.Ending.{back_ends, back_lost, back_stores, back_destroys}
use Rattle.mir_machine.proofs.machine.Machine.give_back.Goals as goal

pub returns-in_default-clause-goes : goal.returns-in_default-clause-goes
returns-in_default-clause-goes c = back_ends (shapes_in c.args.program.now) (state_in c.args.program.now c.args.self.now) (value_of c.args.value) (ap (λ l. map (control_in c.args.program.now) (reverse l)) c.in_default.ensures.0)

pub returns-in_err-destroyed-clause-goes : goal.returns-in_err-destroyed-clause-goes
returns-in_err-destroyed-clause-goes c =
    stopped c.in_err-destroyed.field-0.0 c.destroyed.result c.from_residual.result _ _ _ _ c.in_err-destroyed.was c.from_residual.ensures.1 c.destroyed.ensures.goes
    (λ gone. back_destroys (shapes_in c.args.program.now) (state_in c.args.program.now c.args.self.now) (value_of c.args.value) (control_in c.args.program.now c.in-Some.caller) (map (control_in c.args.program.now) (reverse c.pop.new.self))
    (ap (λ l. map (control_in c.args.program.now) (reverse l)) c.in-Some.ensures ∙ newest_first (control_in c.args.program.now) c.pop.new.self c.in-Some.caller)
    (ap (option_map (dest_in c.args.program.now)) (sym c.replace-dest.ensures.value ∙ c.in_default-dest.is)) ∙ gone)

pub returns-in_default-dest-clause-goes : goal.returns-in_default-dest-clause-goes
returns-in_default-dest-clause-goes c =
    back_destroys (shapes_in c.args.program.now) (state_in c.args.program.now c.args.self.now) (value_of c.args.value) (control_in c.args.program.now c.in-Some.caller) (map (control_in c.args.program.now) (reverse c.pop.new.self))
    (ap (λ l. map (control_in c.args.program.now) (reverse l)) c.in-Some.ensures ∙ newest_first (control_in c.args.program.now) c.pop.new.self c.in-Some.caller)
    (ap (option_map (dest_in c.args.program.now)) (sym c.replace-dest.ensures.value ∙ c.in_default-dest.is)) ∙ c.in_ok-destroyed.ensures.goes

pub returns-in_err-store-clause-goes : goal.returns-in_err-store-clause-goes
returns-in_err-store-clause-goes c =
    stopped c.in_err-store.field-0.0 c.store.result c.from_residual-in_err-store.result _ _ _ _ c.in_err-store.was c.from_residual-in_err-store.ensures.1 c.store.ensures
    (back_lost (shapes_in c.args.program.now) (state_in c.args.program.now c.args.self.now) (value_of c.args.value) (dest_in c.args.program.now c.in-Some-dest.dest) (control_in c.args.program.now c.in-Some.caller) (map (control_in c.args.program.now) (reverse c.pop.new.self))
    (ap (λ l. map (control_in c.args.program.now) (reverse l)) c.in-Some.ensures ∙ newest_first (control_in c.args.program.now) c.pop.new.self c.in-Some.caller)
    (ap (option_map (dest_in c.args.program.now)) (sym c.replace-dest.ensures.value ∙ c.in-Some-dest.is)))

pub returns-clause-goes : goal.returns-clause-goes
returns-clause-goes c =
    back_stores (shapes_in c.args.program.now) (state_in c.args.program.now c.args.self.now) (value_of c.args.value) (dest_in c.args.program.now c.in-Some-dest.dest) (control_in c.args.program.now c.in-Some.caller) (map (control_in c.args.program.now) (reverse c.pop.new.self)) (memory_of c.store.new.memory)
    (ap (λ l. map (control_in c.args.program.now) (reverse l)) c.in-Some.ensures ∙ newest_first (control_in c.args.program.now) c.pop.new.self c.in-Some.caller)
    (ap (option_map (dest_in c.args.program.now)) (sym c.replace-dest.ensures.value ∙ c.in-Some-dest.is)) c.in_ok-store.ensures
