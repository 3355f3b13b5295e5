use Rattle.std.proofs.Common.{◌∙◌, ◌++◌, sym, ap}
use Rattle.std.proofs.lemmas.Result.{IfOk-weaker}
use Rattle.mir_syntax.specs.Tree.{trees_of, at_ids, node}
use Rattle.mir_meaning.specs.Programs.{shapes_in}
use Rattle.mir_meaning.specs.Views.{addr_of}
use Rattle.mir_machine.specs.Seen.{items_in}
use Rattle.mir_semantics.specs.Step.{visits_of, field_visits}
use Rattle.mir_machine.proofs.Visiting.{visits_tuple, visits_none}
use Rattle.mir_machine.proofs.visits.push_visits.Goals as goal

pub returns-in-Tuple : goal.returns-in-Tuple
returns-in-Tuple c =
    IfOk-weaker c.push_types.result _ _ (λ _ made v e. made c.args.program.now ∙ ap (λ l. l ++ items_in c.args.program.now c.args.items.now) (ap (λ ids. field_visits (addr_of c.args.visit.now.at) 0 (at_ids (trees_of c.args.program.now.types) ids)) c.as_slice.ensures
    ∙ sym (ap (λ t. visits_of (shapes_in c.args.program.now) (addr_of c.args.visit.now.at) t v) (c.in-Some.ensures.stands ∙ ap (node (trees_of c.args.program.now.types)) c.in-Tuple.is) ∙ visits_tuple (shapes_in c.args.program.now) (trees_of c.args.program.now.types) (addr_of c.args.visit.now.at) c.in-Tuple.types v))) c.push_types.ensures

pub returns-in-Named : goal.returns-in-Named
returns-in-Named c =
    IfOk-weaker c.push_def.result _ _ (λ _ made v e. made v e ∙ ap (λ l. l ++ items_in c.args.program.now c.args.items.now) (sym (ap (λ t. visits_of (shapes_in c.args.program.now) (addr_of c.args.visit.now.at) t v) (c.in-Some.ensures.stands ∙ ap (node (trees_of c.args.program.now.types)) c.in-Named.is)))) c.push_def.ensures

pub returns-in_default-ty : goal.returns-in_default-ty
returns-in_default-ty c = λ v e. sym (ap (λ t. visits_of (shapes_in c.args.program.now) (addr_of c.args.visit.now.at) t v ++ items_in c.args.program.now c.args.items.now) c.in-Some.ensures.stands ∙ ap (λ l. l ++ items_in c.args.program.now c.args.items.now) (visits_none (shapes_in c.args.program.now) (trees_of c.args.program.now.types) (addr_of c.args.visit.now.at) c.in-Some.ty.now v c.in_default-ty.not-Tuple c.in_default-ty.not-Named))
