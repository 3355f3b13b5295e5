use Rattle.std.proofs.Common.{◌∙◌}
use Rattle.mir_meaning.specs.Sight.{here_of}
use Rattle.mir_meaning.proofs.Sights.{whole_type}
use Rattle.mir_meaning.proofs.here.Here.type_of.Goals as goal

pub returns : goal.returns
returns c = c.place_ty.ensures.ty ∙ whole_type (here_of c.args.self) c.args.place.now c.requires
