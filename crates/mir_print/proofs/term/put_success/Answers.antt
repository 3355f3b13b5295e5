use Rattle.mir_print.proofs.Printing.{goes_then}
use Rattle.mir_text.specs.TermText.{success_text}
use Rattle.mir_print.proofs.term.put_success.Goals as goal

pub returns : goal.returns
unfolding success_text
returns g c =
    goes_then c.put.ensures (goes_then c.put_block_name.ensures c.put-2.ensures)
