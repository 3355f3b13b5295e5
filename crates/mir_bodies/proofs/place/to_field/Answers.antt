use Rattle.mir_tree.specs.Types.{type_rule}
use Rattle.mir_bodies.proofs.PlaceSteps.{field_step}
use Rattle.mir_bodies.proofs.place.to_field.Goals as goal

pub returns-clause-goes_on : goal.returns-clause-goes_on
returns-clause-goes_on g c = λ start q r.
    field_step c.args.scope.now g.sense start c.args.line q c.args.walk c.args.draft.now c.differs_from.new.draft c.args.index (type_rule c.args.text.now) c.field_of-ty.result
    c.in_ok-differs.differs c.either.result c.push.new.self c.requires c.field_of-ty.ensures.ty (c.field_of-ty.ensures.in_table c.requires.in_table)
    c.in_ok-differs.ensures.differs c.in_ok-differs.ensures.went c.in_ok-push.ensures.ok c.either.ensures r
