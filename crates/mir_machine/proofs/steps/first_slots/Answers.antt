use Rattle.std.proofs.Common.{◌∙◌, sym, ap, map}
use Rattle.std.proofs.lemmas.Result.{IfOk-weaker}
use Rattle.mir_semantics.specs.Step.{new_slots}
use Rattle.mir_meaning.specs.Programs.{shapes_in, type_in}
use Rattle.mir_meaning.specs.Views.{value_of}
use Rattle.mir_machine.proofs.Starting.{some_slots}
use Rattle.mir_machine.proofs.steps.first_slots.Goals as goal

pub returns : goal.returns
returns c =
    IfOk-weaker c.new_slots.result _ _ (λ slots made. some_slots c.args.program.now c.args.entry.now.f.0 c.in-Some.function.now (map value_of c.args.entry.now.args) (map value_of slots) (sym c.in-Some.ensures)
    (made ∙ (ap (λ l. new_slots (shapes_in c.args.program.now) (map (type_in c.args.program.now) l) (map value_of c.in_ok-args.args)) c.as_slice-2.ensures
    ∙ ap (new_slots (shapes_in c.args.program.now) (map (type_in c.args.program.now) c.in-Some.function.now.body.locals)) (c.in_ok-args.ensures ∙ ap (map value_of) c.as_slice.ensures)))) c.new_slots.ensures
