use Rattle.std.proofs.Common.{◌≡◌, IsTrue, length}
use Rattle.std.specs.List.{list_all}
use Rattle.mir_rules.specs.BodyRules.{breaks_v20}
use Rattle.mir_validate.specs.Inside.{shapes, local_types}
use Rattle.mir_syntax.specs.Parts.{operand_whole}
use Rattle.mir_validate.proofs.inside.Inside.has_unscalar.Given as goal

abbrev pub invariant-operands : goal.invariant-operands
invariant-operands l = (breaks_v20 (shapes l.self.program.now) (local_types l.self.program.now l.self.body.now) l.operands ≡ breaks_v20 (shapes l.self.program.now) (local_types l.self.program.now l.self.body.now) l.rest) × IsTrue (list_all operand_whole l.rest)

abbrev pub decreases-operands : goal.decreases-operands
decreases-operands l = length l.rest
