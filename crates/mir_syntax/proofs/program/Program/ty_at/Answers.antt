use Rattle.mir_syntax.proofs.Places.{ty-read}
use Rattle.mir_syntax.proofs.InTable.{ty-made}
use Rattle.mir_syntax.proofs.program.Program.ty_at.Goals as goal

pub returns-clause-stands : goal.returns-clause-stands
returns-clause-stands c =
    ty-read c.args.self.now.types c.args.id c.get.result c.args.self.now.table c.get.ensures

pub returns-clause-made : goal.returns-clause-made
returns-clause-made c =
    ty-made c.args.self.now.types c.args.id.0 c.get.result c.args.self.now.table c.get.ensures
