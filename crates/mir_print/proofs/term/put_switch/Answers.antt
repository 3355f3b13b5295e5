use Rattle.mir_print.proofs.Printing.{goes_then}
use Rattle.mir_print.proofs.term.put_switch.Goals as goal

pub returns : goal.returns
returns g c =
    goes_then c.put.ensures (goes_then c.put_operand.ensures (goes_then c.put-2.ensures (goes_then c.put_arms_of.ensures (goes_then c.put-3.ensures (goes_then c.put_block_name.ensures c.put-4.ensures)))))
