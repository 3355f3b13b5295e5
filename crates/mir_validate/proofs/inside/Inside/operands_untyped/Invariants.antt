use Rattle.std.proofs.Common.{◌≡◌, IsTrue, length}
use Rattle.std.specs.List.{list_all, list_any}
use Rattle.mir_validate.specs.Inside.{shapes, local_types}
use Rattle.mir_syntax.specs.Parts.{operand_whole}
use Rattle.mir_validate.specs.Codes.{operand_untyped}
use Rattle.mir_validate.proofs.inside.Inside.operands_untyped.Given as goal

abbrev pub invariant-operands : goal.invariant-operands
invariant-operands l =
    let D = shapes l.self.program.now in
    let locals = local_types l.self.program.now l.self.body.now in
    (list_any (operand_untyped D locals) l.operands ≡ list_any (operand_untyped D locals) l.rest) × IsTrue (list_all operand_whole l.rest)

abbrev pub decreases-operands : goal.decreases-operands
decreases-operands l = length l.rest
