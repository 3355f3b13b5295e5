use Rattle.std.proofs.Common.{arith}
use Rattle.bit_rows.specs.Rows.{row_at}
use Rattle.trim_locals.proofs.equal.Same.{over_more}
use Rattle.dest_prop.specs.Merged.{operand_home}
use Rattle.dest_prop.specs.Code.{home_in, shared_in}
use Rattle.dest_prop.proofs.renaming.operands_at_home.Goals as goal

pub loop-operand-preserved : goal.loop-operand-preserved
loop-operand-preserved c = over_more (operand_home (shared_in (row_at c.args.shared.now 0)) (home_in c.args.homes.now)) c.args.operands c.loop-operand.operand-items c.loop-operand.operand-index c.operand-item.result c.put_at_home.new.operand (omega arith) c.loop-operand.invariant c.put_at_home.ensures
