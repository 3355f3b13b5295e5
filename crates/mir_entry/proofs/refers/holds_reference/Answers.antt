use Rattle.mir_meaning.specs.Programs.{type_in}
use Rattle.mir_entry.proofs.Referring.{holds_in}
use Rattle.mir_entry.proofs.refers.holds_reference.Goals as goal

pub returns : goal.returns
returns c = holds_in c.args.program.now (type_in c.args.program.now c.args.id) _ c.refers_within.result c.len.ensures c.refers_within.ensures
