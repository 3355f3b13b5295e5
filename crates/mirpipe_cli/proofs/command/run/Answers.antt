use Rattle.std.proofs.Common.{Err, ap, subst}
use Rattle.mir_syntax.specs.Crate.{crate_of}
use Rattle.crate_run.specs.Ran.{HasNoFunction}
use Rattle.mirpipe_cli.proofs.Answering.{run_text_as, no_entry_as}
use Rattle.mirpipe_cli.proofs.command.run.Goals as goal

pub returns-in-Ok-clause-writes : goal.returns-in-Ok-clause-writes
returns-in-Ok-clause-writes c = λ input accepted.
    let C = crate_of c.args.accepted.valid in
    let text = run_text_as C _ c.args.path _ c.args.args _ c.args.answers c.args.steps c.in-Ok.text c.as_slice.ensures c.as_slice-2.ensures c.as_slice-3.ensures c.in-Ok.ensures.text in
    (C, c.args.accepted.lines, accepted, text)

pub returns-in-NoFunction-clause-refused : goal.returns-in-NoFunction-clause-refused
returns-in-NoFunction-clause-refused c = λ input accepted.
    let C = crate_of c.args.accepted.valid in
    record {
      C = C;
      lines = c.args.accepted.lines;
      accepted = accepted;
      none = subst (HasNoFunction C) c.as_slice.ensures (c.in-Err.ensures.no_function (ap Err c.in-NoFunction.is));
    }

pub returns-in-NoEntry-clause-refused : goal.returns-in-NoEntry-clause-refused
returns-in-NoEntry-clause-refused c = λ input accepted.
    let C = crate_of c.args.accepted.valid in
    record {
      C = C;
      lines = c.args.accepted.lines;
      accepted = accepted;
      none = no_entry_as C _ c.args.path _ c.args.args c.as_slice.ensures c.as_slice-2.ensures (c.in-Err.ensures.no_entry (ap Err c.in-NoEntry.is));
    }
