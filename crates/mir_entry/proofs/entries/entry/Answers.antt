use Rattle.std.proofs.Common.{sym}
use Rattle.mir_entry.specs.Readings.{integers_of}
use Rattle.mir_entry.proofs.Entering.{entered, entered_flat, no_function, not_entered, misfits, few_shapes, fault_on, few_yes}
use Rattle.mir_entry.proofs.entries.entry.Goals as goal

pub returns-in_ok-args-in-Some-clause-entry : goal.returns-in_ok-args-in-Some-clause-entry
returns-in_ok-args-in-Some-clause-entry c =
    entered c.args.program.now c.in-Some.function.now (integers_of c.args.flat.now) (record { f = c.args.f; args = c.in_ok-args-in-Some.args }) (sym c.in-Some.ensures) c.in_ok-args-in-Some.ensures.enters

pub returns-in_ok-args-in-Some-clause-fits : goal.returns-in_ok-args-in-Some-clause-fits
returns-in_ok-args-in-Some-clause-fits c =
    entered_flat c.args.program.now c.args.f.0 c.in-Some.function.now (integers_of c.args.flat.now) c.in_ok-args-in-Some.args (sym c.in-Some.ensures) c.in_ok-args-in-Some.ensures.enters

pub returns-in_err-args-in-Some-clause-refused : goal.returns-in_err-args-in-Some-clause-refused
returns-in_err-args-in-Some-clause-refused c = λ k gives.
    not_entered c.args.program.now (few_shapes c.args.program.now (few_yes c.few_variants.result _ c.few_variants.ensures c.if-not-few_variants.false)) c.args.f.0 c.in-Some.function.now (integers_of c.args.flat.now) (sym c.in-Some.ensures)
    (c.arguments.ensures.refuses k (fault_on c.arguments.result c.from_residual.result c.in_err-args-in-Some.field-0.0 k c.in_err-args-in-Some.was c.from_residual.ensures.1 gives))

pub returns-in-None-clause-refused : goal.returns-in-None-clause-refused
returns-in-None-clause-refused c = λ k gives body e there at entry flats. no_function c.args.program.now c.args.f.0 body (sym c.in-None.ensures) there

pub returns-in_err-args-in-Some-clause-place : goal.returns-in_err-args-in-Some-clause-place
returns-in_err-args-in-Some-clause-place c = λ k gives.
    misfits c.args.program.now (few_shapes c.args.program.now (few_yes c.few_variants.result _ c.few_variants.ensures c.if-not-few_variants.false)) c.args.f.0 c.in-Some.function.now (integers_of c.args.flat.now) k (sym c.in-Some.ensures)
    (c.arguments.ensures.strays k (fault_on c.arguments.result c.from_residual.result c.in_err-args-in-Some.field-0.0 k c.in_err-args-in-Some.was c.from_residual.ensures.1 gives))

pub returns-in-None-clause-place : goal.returns-in-None-clause-place
returns-in-None-clause-place c = λ k gives body there. absurd (no_function c.args.program.now c.args.f.0 body (sym c.in-None.ensures) there)
