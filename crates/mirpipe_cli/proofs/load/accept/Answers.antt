use Rattle.std.proofs.Common.{Err, ap}
use Rattle.mirpipe_cli.proofs.load.accept.Goals as goal

pub returns-in-Fault-clause-refused : goal.returns-in-Fault-clause-refused
returns-in-Fault-clause-refused c =
    let code = c.in-Fault.code in
    let line = c.in-Fault.line in
    (record { short = c.requires; none = c.in-Err.ensures.refuses code line (ap Err c.in-Fault.is); first = c.in-Err.ensures.first code line (ap Err c.in-Fault.is) }, tt)
