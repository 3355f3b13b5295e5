use Rattle.mir_print.proofs.Printing.{goes_then}
use Rattle.mir_text.specs.TermText.{return_text}
use Rattle.mir_print.proofs.term.put_return.Goals as goal

pub returns : goal.returns
unfolding return_text
returns g c =
    goes_then c.put.ensures (goes_then c.put_block_name.ensures c.put-2.ensures)
