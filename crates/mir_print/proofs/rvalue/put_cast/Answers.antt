use Rattle.mir_print.proofs.Printing.{goes_then}
use Rattle.mir_print.proofs.rvalue.put_cast.Goals as goal

pub returns : goal.returns
returns g c =
    goes_then c.put_operand.ensures (goes_then c.put.ensures (goes_then c.put_type.ensures c.put-2.ensures))
