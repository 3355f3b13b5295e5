use Rattle.mir_resolve.proofs.PathBytes.{no_string}
use Rattle.mir_resolve.proofs.paths.string_of.Goals as goal

pub returns-in-None : goal.returns-in-None
returns-in-None c = no_string c.args.strings.now c.args.number c.in-None.ensures
