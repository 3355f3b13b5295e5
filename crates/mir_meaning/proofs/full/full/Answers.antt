use Rattle.mir_meaning.specs.Programs.{type_in}
use Rattle.mir_meaning.specs.Views.{part_of}
use Rattle.mir_meaning.proofs.Fulls.{full_whole}
use Rattle.mir_meaning.proofs.full.full.Goals as goal

pub returns : goal.returns
returns c = full_whole c.args.program.now (type_in c.args.program.now c.args.id) (part_of c.args.part) _ c.full_within.result c.len.ensures c.full_within.ensures
