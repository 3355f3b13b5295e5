use Rattle.std.proofs.Common.{◌∙◌, ◌++◌, sym, ap, slice_get}
use Rattle.std.proofs.lemmas.Result.{IfOk-weaker}
use Rattle.mir_syntax.specs.Shapes.{variant_ty}
use Rattle.mir_meaning.specs.Programs.{shapes_in}
use Rattle.mir_meaning.specs.Views.{addr_of}
use Rattle.mir_machine.specs.Seen.{items_in}
use Rattle.mir_semantics.specs.Step.{variant_visits}
use Rattle.mir_machine.proofs.Visiting.{struct_visits, other_visits, enum_visits_are}
use Rattle.mir_machine.proofs.visits.push_def.Goals as goal

pub returns-in-Some : goal.returns-in-Some
returns-in-Some c =
    IfOk-weaker c.push_fields.result _ _ (λ _ made v e. made c.args.program.now ∙ ap (λ l. l ++ items_in c.args.program.now c.args.items.now) (sym (struct_visits (addr_of c.args.visit.now.at) (slice_get (shapes_in c.args.program.now) c.args.def) _ v (sym c.in-Some.ensures.fields)))) c.push_fields.ensures

pub returns-in_default-active : goal.returns-in_default-active
returns-in_default-active c = λ v e. ap (λ l. l ++ items_in c.args.program.now c.args.items.now) (sym (other_visits (addr_of c.args.visit.now.at) (slice_get (shapes_in c.args.program.now) c.args.def) v (sym c.in_default.ensures.fields) (e ∙ c.in_default-active.is)))

pub returns-in_default-variant_fields : goal.returns-in_default-variant_fields
returns-in_default-variant_fields c =
    λ v e. ap (λ l. l ++ items_in c.args.program.now c.args.items.now) (sym (enum_visits_are (addr_of c.args.visit.now.at) (slice_get (shapes_in c.args.program.now) c.args.def) v c.in-Some-active.variant (sym c.in_default.ensures.fields) (e ∙ c.in-Some-active.is)
    ∙ ap (variant_visits (addr_of c.args.visit.now.at) c.in-Some-active.variant) (sym (c.in_default-variant_fields.ensures.fields ∙ ap (λ t. variant_ty (shapes_in c.args.program.now) t c.in-Some-active.variant) c.requires))))

pub returns : goal.returns
returns c =
    IfOk-weaker c.push_fields-2.result _ _ (λ _ made v e. made c.args.program.now ∙ ap (λ l. l ++ items_in c.args.program.now c.args.items.now) (sym (enum_visits_are (addr_of c.args.visit.now.at) (slice_get (shapes_in c.args.program.now) c.args.def) v c.in-Some-active.variant (sym c.in_default.ensures.fields) (e ∙ c.in-Some-active.is)
    ∙ ap (variant_visits (addr_of c.args.visit.now.at) c.in-Some-active.variant) (sym (c.in-Some-variant_fields.ensures.fields ∙ ap (λ t. variant_ty (shapes_in c.args.program.now) t c.in-Some-active.variant) c.requires))))) c.push_fields-2.ensures
