use Rattle.std.proofs.Common.{◌∙◌}
use Rattle.mir_validate.specs.Inside.{shapes, local_types}
use Rattle.mir_rules.proofs.Whole.{whole_place}
use Rattle.mir_validate.proofs.inside.Inside.place_ty.Goals as goal

pub returns-clause-ty : goal.returns-clause-ty
returns-clause-ty c =
    let p = c.args.self.now.program.now in
    c.place_ty.ensures.ty ∙ whole_place (shapes p) (local_types p c.args.self.now.body.now) c.args.place.now c.requires.formed
