use Rattle.std.proofs.Common.{arith}
use Rattle.trim_locals.proofs.equal.Same.{over_more}
use Rattle.sroa_pass.specs.Code.{put_operand}
use Rattle.sroa_pass.proofs.places.put_operands.Goals as goal

pub loop-operand-preserved : goal.loop-operand-preserved
loop-operand-preserved c = over_more (put_operand c.args.table.now) c.args.operands c.loop-operand.operand-items c.loop-operand.operand-index c.operand-item.result c.put_in_place.new.operand (omega arith) c.loop-operand.invariant c.put_in_place.ensures
