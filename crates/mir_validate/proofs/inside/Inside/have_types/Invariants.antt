use Rattle.std.proofs.Common.{◌≡◌, IsTrue, length, map}
use Rattle.std.specs.List.{list_all}
use Rattle.mir_syntax.specs.Tree.{at_id, trees_of}
use Rattle.mir_syntax.specs.Table.{all_below}
use Rattle.mir_validate.specs.Inside.{shapes, local_types}
use Rattle.mir_syntax.specs.Parts.{operand_whole}
use Rattle.mir_validate.specs.Codes.{have_types}
use Rattle.mir_validate.proofs.inside.Inside.have_types.Given as goal

abbrev pub invariant-operands : goal.invariant-operands
invariant-operands l =
    let D = shapes l.self.program.now in
    let locals = local_types l.self.program.now l.self.body.now in
    let trees = trees_of l.self.program.now.types in
    (have_types D locals l.operands (map (at_id trees) l.ids) ≡ have_types D locals l.rest (map (at_id trees) l.left)) × IsTrue (list_all operand_whole l.rest)
    × IsTrue (all_below (length l.self.program.now.types) l.left)

abbrev pub decreases-operands : goal.decreases-operands
decreases-operands l = length l.rest
