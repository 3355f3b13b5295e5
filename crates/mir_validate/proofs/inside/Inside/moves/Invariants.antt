use Rattle.std.proofs.Common.{◌≡◌, ◌||◌, IsTrue, length}
use Rattle.std.specs.List.{list_all}
use Rattle.mir_rules.specs.BodyRules.{breaks_v21, breaks_v22}
use Rattle.mir_validate.specs.Inside.{shapes, local_types}
use Rattle.mir_syntax.specs.Parts.{operand_whole}
use Rattle.mir_validate.proofs.inside.Inside.moves.Given as goal

abbrev pub invariant-operands : goal.invariant-operands
invariant-operands l =
    let D = shapes l.self.program.now in
    let locals = local_types l.self.program.now l.self.body.now in
    (breaks_v21 D locals l.operands ≡ (l.found.through || breaks_v21 D locals l.rest))
    × (breaks_v22 D locals l.operands ≡ (l.found.indirectly || breaks_v22 D locals l.rest)) × IsTrue (list_all operand_whole l.rest)

abbrev pub decreases-operands : goal.decreases-operands
decreases-operands l = length l.rest
