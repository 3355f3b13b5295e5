use Rattle.std.proofs.Common.{arith}
use Rattle.trim_locals.specs.Trimmed.{number_in, renamed_operand}
use Rattle.trim_locals.proofs.equal.Same.{over_more}
use Rattle.trim_locals.proofs.renaming.renamed_operands.Goals as goal

pub loop-operand-preserved : goal.loop-operand-preserved
loop-operand-preserved c = over_more (renamed_operand (number_in c.args.numbers.now)) c.args.operands c.loop-operand.operand-items c.loop-operand.operand-index c.operand-item.result c.rename_in_place.new.operand (omega arith) c.loop-operand.invariant c.rename_in_place.ensures
