use Rattle.std.proofs.Common.{Err, ap}
use Rattle.mir_syntax.specs.declared.types.FnId.{FnId}
use Rattle.mir_syntax.specs.Crate.{crate_of}
use Rattle.crate_run.proofs.Calling.{body_there}
use Rattle.crate_run.proofs.ran.call_of.Goals as goal

pub returns-in-Ok-clause-call : goal.returns-in-Ok-clause-call
returns-in-Ok-clause-call c = λ g there.
    record {
      function = ap (λ (f : FnId). f.0) c.in-Ok.ensures.function;
      entry = c.in-Ok.ensures.entry;
      flat = c.in-Ok.ensures.fits g.body (body_there (crate_of c.args.program.now) c.args.f.0 g there);
    }

pub returns-in-Err-NotFit-clause-none : goal.returns-in-Err-NotFit-clause-none
returns-in-Err-NotFit-clause-none c = λ g there is e call.
    c.in-Err-NotFit.ensures.refused c.in-Err-NotFit.field-0-0 (ap Err c.in-Err-NotFit.field-0-is) g.body e (body_there (crate_of c.args.program.now) c.args.f.0 g there) call.function call.entry call.flat
