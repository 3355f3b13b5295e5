use Rattle.std.proofs.Common.{arith}
use Rattle.const_rewrite.specs.Folded.{folded_operand}
use Rattle.const_rewrite.specs.Points.{here, where_reached}
use Rattle.const_rewrite.proofs.equal.Fronts.{over_more}
use Rattle.const_rewrite.proofs.terminator.folded_operands.Goals as goal

pub loop-operand-preserved : goal.loop-operand-preserved
loop-operand-preserved c = over_more (where_reached (folded_operand (here c.args.text)) c.args.facts.now) c.args.operands c.loop-operand.operand-items c.loop-operand.operand-index c.operand-item.result c.fold_in_place.new.operand (omega arith) c.loop-operand.invariant c.fold_in_place.ensures
