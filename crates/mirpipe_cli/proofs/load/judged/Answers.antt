use Rattle.std.proofs.Common.{◌≡◌, None, sym, subst}
use Rattle.mir_syntax.specs.Crate.{Crate, crate_of}
use Rattle.mir_rules.specs.Faults.{first_rule}
use Rattle.mirpipe_cli.specs.Refused.{IsRead}
use Rattle.mirpipe_cli.proofs.Judging.{is_accepted}
use Rattle.mirpipe_cli.proofs.load.judged.Goals as goal

pub returns-in-Ok-clause-accepted : goal.returns-in-Ok-clause-accepted
returns-in-Ok-clause-accepted c = λ input read.
    let C = crate_of c.in-Ok.valid in
    let lines = c.args.read.lines in
    let same : crate_of c.args.read.program ≡ C = sym c.in-Ok.ensures.same_ok in
    is_accepted input C lines (subst (λ (D : Crate). IsRead input D lines) same read) (subst (λ (D : Crate). first_rule lines D ≡ None) same c.in-Ok.ensures.no_rule)
    c.in-Ok.ensures.checked.valid c.in-Ok.ensures.checked.within

pub returns-in-Rule-clause-refused : goal.returns-in-Rule-clause-refused
returns-in-Rule-clause-refused c = λ input read. (
  record {
    C = crate_of c.args.read.program;
    lines = c.args.read.lines;
    read = read;
    rule = c.in-Err.ensures.rule c.in-Rule.code c.in-Rule.line c.in-Rule.is;
  },
  tt,
)

pub returns-in-Limit-clause-refused : goal.returns-in-Limit-clause-refused
returns-in-Limit-clause-refused c = λ input read.
    let both = c.in-Err.ensures.limit c.in-Limit.code c.in-Limit.line c.in-Limit.is in (
      record {
        C = crate_of c.args.read.program;
        lines = c.args.read.lines;
        read = read;
        rules = both.0;
        limit = both.1;
      },
      tt,
    )
