use Rattle.std.proofs.Common.{◌∙◌, sym, ap, refl}
use Rattle.std.specs.Option.{option_map}
use Rattle.mir_meaning.specs.Programs.{shapes_in}
use Rattle.mir_meaning.proofs.Binds.{gives_same, stopped}
use Rattle.mir_machine.specs.Seen.{control_in, dropping_in, visit_in, items_in, state_in}
use Rattle.mir_machine.proofs.Visiting.{item_first}
use Rattle.mir_machine.proofs.DropsOn.{destroyed_never, destroyed_empty, destroyed_lost, destroyed_on}
use Rattle.mir_machine.proofs.machine.Machine.destroyed.Goals as goal

pub returns-in_default-clause-goes : goal.returns-in_default-clause-goes
returns-in_default-clause-goes c = destroyed_never (shapes_in c.args.program.now) (state_in c.args.program.now c.args.self.now) (control_in c.args.program.now c.args.self.now.top) (ap (option_map (dropping_in c.args.program.now)) (sym c.replace-begun.ensures.value ∙ c.in_default.is))

pub returns-in_default-pop-clause-goes : goal.returns-in_default-pop-clause-goes
returns-in_default-pop-clause-goes c = destroyed_empty (shapes_in c.args.program.now) (state_in c.args.program.now c.args.self.now) (control_in c.args.program.now c.args.self.now.top) (dropping_in c.args.program.now c.in-Some.dropping) (ap (option_map (dropping_in c.args.program.now)) (sym c.replace-begun.ensures.value ∙ c.in-Some.is)) (ap (items_in c.args.program.now) c.in_default-pop.ensures.0)

pub returns-in_err-active-clause-goes : goal.returns-in_err-active-clause-goes
returns-in_err-active-clause-goes c =
    stopped c.in_err-active.field-0.0 c.active_left.result c.from_residual.result _ _ _ _ c.in_err-active.was c.from_residual.ensures.1 c.active_left.ensures
    (destroyed_lost (shapes_in c.args.program.now) (state_in c.args.program.now c.args.self.now) (control_in c.args.program.now c.args.self.now.top) (dropping_in c.args.program.now c.in-Some.dropping) (visit_in c.args.program.now c.in-Some-pop.item) (items_in c.args.program.now c.pop.new.self) (ap (option_map (dropping_in c.args.program.now)) (sym c.replace-begun.ensures.value ∙ c.in-Some.is)) (ap (items_in c.args.program.now) c.in-Some-pop.ensures ∙ item_first c.args.program.now c.pop.new.self c.in-Some-pop.item))

pub returns-clause-goes : goal.returns-clause-goes
returns-clause-goes c =
    gives_same _ _ _ _ (destroyed_on (shapes_in c.args.program.now) (state_in c.args.program.now c.args.self.now) (dropping_in c.args.program.now c.in-Some.dropping) (visit_in c.args.program.now c.in-Some-pop.item) (items_in c.args.program.now c.pop.new.self) (items_in c.args.program.now c.push_visits.new.items) c.in_ok-active.active (option_map (dropping_in c.args.program.now) c.replace-begun.new.dest)
    (control_in c.args.program.now (record c.args.self.now.top { dropping = c.replace-begun.new.dest })) (ap (option_map (dropping_in c.args.program.now)) (sym c.replace-begun.ensures.value ∙ c.in-Some.is)) (ap (items_in c.args.program.now) c.in-Some-pop.ensures ∙ item_first c.args.program.now c.pop.new.self c.in-Some-pop.item) c.in_ok-active.ensures (λ v e. c.in_ok-push_visits.ensures v e) refl) c.work_on.ensures.goes
