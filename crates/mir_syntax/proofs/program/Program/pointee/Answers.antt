use Rattle.std.proofs.Common.{sym}
use Rattle.mir_syntax.specs.Tree.{trees_of}
use Rattle.mir_syntax.proofs.Places.{other-pointee}
use Rattle.mir_syntax.proofs.program.Program.pointee.Goals as goal

pub returns-in_default-clause-ty : goal.returns-in_default-clause-ty
returns-in_default-clause-ty c =
    rw c.in_ok-id.ensures.stands (sym (other-pointee (trees_of c.args.self.now.types) c.in_ok-id.field-0.now c.in_default.not-Ref c.in_default.not-RefMut))
