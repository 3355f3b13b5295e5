use Rattle.std.proofs.Common.{ap, ◌∙◌}
use Rattle.mir_syntax.specs.declared.program.Program.{Program}
use Rattle.mir_syntax.specs.Crate.{crate_of}
use Rattle.mirpipe_cli.specs.Answer.{counted}
use Rattle.mirpipe_cli.proofs.command.check.Goals as goal

pub returns-in-Ok-clause-writes : goal.returns-in-Ok-clause-writes
returns-in-Ok-clause-writes c = λ input accepted.
    (crate_of c.args.accepted.valid, c.args.accepted.lines, accepted, c.in-Ok.ensures ∙ ap (λ (p : Program). counted (crate_of p)) c.program.ensures.same)
