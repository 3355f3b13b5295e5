use Rattle.std.proofs.Common.{ℕ, List, map, ap, ap₂, sym, ◌∙◌}
use Rattle.mir_text.specs.GrammarStatements.{NamedRule}
use Rattle.mir_text.specs.Names.{string_at}
use Rattle.mir_text.specs.NameFaults.{same_texts}
use Rattle.mir_tree.specs.Bodies.{named_rule}
use Rattle.mir_resolve.proofs.Listed.{items_listed}
use Rattle.mir_bodies.specs.Builds.{name_before, field_name}
use Rattle.mir_bodies.proofs.Building.{names_of_fields}
use Rattle.mir_bodies.proofs.build.has_form.Goals as goal

pub returns-in-Labelled : goal.returns-in-Labelled
returns-in-Labelled c = λ names trees e.
    let xs = c.in-Labelled.named in
    let text : NamedRule → List ℕ = λ x. string_at names.strings x.0 in
    rw (c.in-Named.is, c.in-Labelled.is)
    (c.same_names.ensures
    ∙ ap₂ same_texts
    (ap (map (name_before c.args.strings.now)) c.as_slice.ensures ∙ ap (λ s. map (name_before s) xs.items) (sym e) ∙ sym (items_listed text named_rule xs.items xs.trailing))
    (ap (map field_name) c.as_slice-in-Labelled.ensures ∙ names_of_fields trees c.args.variant.now.fields))
