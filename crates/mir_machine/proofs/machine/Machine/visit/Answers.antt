use Rattle.std.proofs.Common.{◌∙◌, ◌++◌, ◌∷◌, [], ap, map, Some}
use Rattle.mir_syntax.specs.Shapes.{destructor_of}
use Rattle.mir_semantics.specs.Values.{pointer}
use Rattle.mir_meaning.specs.declared.datum.Datum.{Ref}
use Rattle.mir_meaning.specs.Programs.{shapes_in, type_in}
use Rattle.mir_meaning.specs.Views.{value_of}
use Rattle.mir_meaning.proofs.Values.{view_ref}
use Rattle.mir_meaning.proofs.Binds.{gives_same}
use Rattle.mir_machine.specs.Seen.{code_in, control_in, dropping_in, visit_in, items_in, state_in}
use Rattle.mir_machine.proofs.Visiting.{item_first}
use Rattle.mir_machine.proofs.DropsOn.{visit_parts, visit_call}
use Rattle.mir_machine.proofs.machine.Machine.visit.Goals as goal

pub returns-in_default-clause-goes : goal.returns-in_default-clause-goes
returns-in_default-clause-goes c =
    λ v e. gives_same _ _ _ _ (visit_parts (code_in c.args.program.now) (state_in c.args.program.now c.args.self.now) (dropping_in c.args.program.now c.args.dropping) (visit_in c.args.program.now c.args.visit) (items_in c.args.program.now c.args.dropping.items) (items_in c.args.program.now c.push_visits.new.items) v (destructor_of (shapes_in c.args.program.now) (type_in c.args.program.now c.args.visit.ty)) c.in_default.ensures (c.in_ok-push_visits.ensures v e)) c.work_on.ensures.goes

pub returns-clause-goes : goal.returns-clause-goes
returns-clause-goes c =
    λ v e. gives_same _ _ _ _ (visit_call (code_in c.args.program.now) (state_in c.args.program.now c.args.self.now) (dropping_in c.args.program.now c.args.dropping) (visit_in c.args.program.now c.args.visit) (items_in c.args.program.now c.args.dropping.items) v (destructor_of (shapes_in c.args.program.now) (type_in c.args.program.now c.args.visit.ty)) c.in-Some.destructor.0
    (control_in c.args.program.now (record c.args.self.now.top { dropping = Some (record c.args.dropping { items = c.push-2.new.self }) })) (map value_of c.push.new.self) c.in-Some.ensures
    (ap (λ l. record (control_in c.args.program.now c.args.self.now.top) { dropping = Some (record (dropping_in c.args.program.now c.args.dropping) { items = l }) }) (ap (items_in c.args.program.now) c.in_ok-push-2.ensures.ok ∙ item_first c.args.program.now c.args.dropping.items c.args.visit))
    (ap (map value_of) (c.in_ok-push.ensures.ok ∙ ap (λ l. l ++ Ref c.in_ok-pointer.pointer ∷ []) c.new-args.ensures) ∙ ap (λ w. w ∷ []) (view_ref c.in_ok-pointer.pointer ∙ ap pointer c.in_ok-pointer.ensures))) c.enter.ensures.goes
