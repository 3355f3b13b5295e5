use Rattle.mir_print.proofs.Printing.{goes_flushed}
use Rattle.mir_print.proofs.output.Output.flush.Goals as goal

pub returns-then-self-clause-goes : goal.returns-then-self-clause-goes
returns-then-self-clause-goes g c =
    let sent = c.send-going.ensures in
    let cleared = rw (← c.self.view_is) at c.clear.ensures in
    rw (← c.self.view_is) (goes_flushed c.if-self.true cleared sent.sent sent.stopped sent.front)
