use Rattle.std.proofs.Common.{◌∷◌, ◌++◌, [], refl, ap, ◌∙◌}
use Rattle.mir_syntax.specs.declared.body.Proj.TheVariants.{Downcast}
use Rattle.mir_text.specs.NameFaults.{on_line, unless}
use Rattle.mir_tree.specs.Types.{type_rule}
use Rattle.mir_resolve.specs.declared.draft.Draft.{Draft}
use Rattle.mir_resolve.specs.Faults.{noted}
use Rattle.mir_bodies.proofs.PlaceSteps.{variant_step}
use Rattle.mir_bodies.proofs.place.to_variant_field.Goals as goal

pub returns-clause-goes_on : goal.returns-clause-goes_on
returns-clause-goes_on g c = λ start q r.
    let old = c.args.draft.now in
    let between : Draft = record { program = old.program; notes = c.note_unless.new.self; scratch = old.scratch } in
    variant_step c.args.scope.now g.sense start c.args.line q c.args.walk old between c.differs_from.new.draft c.args.name c.args.index (type_rule c.args.text.now)
    c.in_ok-variant.variant c.variant_field-ty.result c.in_ok-differs.differs c.either.result c.push.new.self c.push-2.new.self c.requires c.in_ok-variant.ensures refl
    (c.note_unless.ensures ∙ ap (λ b. noted old.notes (on_line c.args.line (unless b 13))) c.is_some.ensures)
    c.variant_field-ty.ensures.ty (c.variant_field-ty.ensures.in_table c.requires.in_table) c.in_ok-differs.ensures.differs c.in_ok-differs.ensures.went
    (c.in_ok-push.ensures.ok ∙ ap (λ i. c.args.walk.proj ++ Downcast i ∷ []) c.unwrap_or.ensures) c.in_ok-push-2.ensures.ok c.either.ensures r
