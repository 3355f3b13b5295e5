use Rattle.std.proofs.Common.{rules, ◌≡◌, true}
use Rattle.mir_print.proofs.Printing.{goes_passed}
use Rattle.mir_print.proofs.output.Output.pass.Goals as goal

pub returns-then-self : goal.returns-then-self
returns-then-self g c =
    let on : c.args.self.now.going ≡ true = search rules in
    let sent = c.send-going.ensures in
    goes_passed on c.requires c.clear.ensures sent.sent sent.stopped sent.front
