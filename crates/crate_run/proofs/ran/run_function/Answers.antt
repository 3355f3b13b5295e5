use Rattle.std.proofs.Common.{ap, subst, ◌∙◌}
use Rattle.mir_syntax.specs.declared.program.Program.{Program}
use Rattle.mir_syntax.specs.Tree.{trees_of}
use Rattle.mir_syntax.specs.Crate.{crate_of, function_of}
use Rattle.mir_meaning.specs.Programs.{type_in}
use Rattle.mir_machine.specs.Seen.{code_in}
use Rattle.mir_machine.specs.Runs.{entry_in}
use Rattle.run_text.specs.RunText.{run_text}
use Rattle.crate_run.specs.Ran.{IsRunText, HasNoFunction, IsNoEntry}
use Rattle.crate_run.proofs.Calling.{function_there, result_there, result_typed, none_has_path, has_path, fault_on}
use Rattle.crate_run.proofs.ran.run_function.Goals as goal

pub returns-in_default-clause-no_function : goal.returns-in_default-clause-no_function
returns-in_default-clause-no_function c = λ is.
    let checked = c.program-program.ensures.checked in
    subst (λ (p : Program). HasNoFunction (crate_of p) c.args.path.now) c.program-program.ensures.same (none_has_path c.program-program.result.now c.args.path.now checked.within c.in_default.ensures)

pub returns-in_err-call-clause-no_entry : goal.returns-in_err-call-clause-no_entry
returns-in_err-call-clause-no_entry c = λ is.
    let p = c.program-program.result.now in
    let at = c.in-Some.ensures in
    let f = function_of (trees_of p.types) at.0 in
    let none : IsNoEntry (crate_of p) c.args.path.now c.args.args.now = record {
      k = c.in-Some.f.0;
      f = f;
      at = has_path p c.args.path.now c.in-Some.f.0 at.0 at.1 at.2 at.3;
      none = c.call_of.ensures.none f (function_there p c.in-Some.f.0 at.0 at.1) (fault_on c.call_of.result c.from_residual.result c.in_err-call.field-0.0 _ c.in_err-call.was c.from_residual.ensures.1 is);
    } in
    subst (λ (q : Program). IsNoEntry (crate_of q) c.args.path.now c.args.args.now) c.program-program.ensures.same none

pub result_type-ty-requires : goal.result_type-ty-requires
result_type-ty-requires c =
    let at = c.in-Some.ensures in
    (at.0, at.1, result_there c.program-program.result.now c.in-Some.f.0 at.0 c.program-program.ensures.checked.valid at.1)

pub returns-clause-text : goal.returns-clause-text
returns-clause-text c =
    let p = c.program-program.result.now in
    let at = c.in-Some.ensures in
    let f = function_of (trees_of p.types) at.0 in
    let ty = c.result_type-ty.result in
    let text : IsRunText (crate_of p) c.args.path.now c.args.args.now c.args.answers.now c.args.steps c.in_ok-text.text = record {
      k = c.in-Some.f.0;
      f = f;
      at = has_path p c.args.path.now c.in-Some.f.0 at.0 at.1 at.2 at.3;
      e = entry_in c.in_ok-call.call;
      call = c.in_ok-call.ensures.call f (function_there p c.in-Some.f.0 at.0 at.1);
      result = type_in p ty;
      typed = result_typed p at.0 ty (c.result_type-ty.ensures at.0 at.1);
      written = c.in_ok-text.ensures ∙ ap (run_text (code_in p) (type_in p ty)) c.in_ok-seen.ensures;
    } in
    subst (λ (q : Program). IsRunText (crate_of q) c.args.path.now c.args.args.now c.args.answers.now c.args.steps c.in_ok-text.text) c.program-program.ensures.same text
