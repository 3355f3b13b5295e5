use Rattle.std.proofs.Common.{sym, ap, ◌∙◌}
use Rattle.mir_syntax.specs.declared.program.Program.{Program}
use Rattle.mir_syntax.specs.Crate.{crate_of}
use Rattle.mir_text.specs.Text.{text}
use Rattle.mirpipe_cli.specs.FirstDrop.{first_drop}
use Rattle.mirpipe_cli.proofs.Answering.{printed_refines}
use Rattle.mirpipe_cli.proofs.command.seq.Goals as goal

pub returns-in-Some-clause-refused : goal.returns-in-Some-clause-refused
returns-in-Some-clause-refused c = λ input accepted.
    record {
      C = crate_of c.args.accepted.valid;
      lines = c.args.accepted.lines;
      accepted = accepted;
      first = sym (c.in-Some.ensures ∙ ap (λ (p : Program). first_drop c.args.accepted.lines (crate_of p)) c.program.ensures.same);
    }

pub returns-in-Ok-clause-writes : goal.returns-in-Ok-clause-writes
returns-in-Ok-clause-writes c = λ input accepted.
    let none = sym (c.in_default.ensures ∙ ap (λ (p : Program). first_drop c.args.accepted.lines (crate_of p)) c.program.ensures.same) in
    (crate_of c.args.accepted.valid, c.args.accepted.lines, accepted, none, ap text c.in-Ok.ensures.optimised)

pub returns-in-Ok-clause-refines : goal.returns-in-Ok-clause-refines
returns-in-Ok-clause-refines c = λ input accepted.
    let none = sym (c.in_default.ensures ∙ ap (λ (p : Program). first_drop c.args.accepted.lines (crate_of p)) c.program.ensures.same) in
    printed_refines input (crate_of c.args.accepted.valid) (crate_of c.in-Ok.program) c.args.accepted.lines accepted none c.in-Ok.ensures.optimised
