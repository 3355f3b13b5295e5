use Rattle.mir_print.proofs.Printing.{goes_then}
use Rattle.mir_print.proofs.output.Output.put_anew.Goals as goal

pub returns : goal.returns
returns g c = goes_then c.flush.ensures.goes c.put_first.ensures
