use Rattle.std.proofs.Common.{◌≡◌, ◌<◌, ◌∙◌, Some, None, sym, ap, subst, length, slice_get}
use Rattle.std.proofs.lemmas.Option.{slice_get_within}
use Rattle.mir_syntax.specs.declared.program.Program.{Program}
use Rattle.mir_syntax.specs.Tree.{trees_of}
use Rattle.mir_syntax.specs.Crate.{body_of, function_of, crate_of}
use Rattle.mir_text.specs.Text.{function_text}
use Rattle.crate_run.specs.Ran.{HasNoFunction, IsAt}
use Rattle.crate_run.proofs.Calling.{none_has_path, has_path}
use Rattle.pipe_words.specs.declared.command.Command.TheVariants.{Dump}
use Rattle.mirpipe_cli.specs.Answer.{Writes}
use Rattle.mirpipe_cli.specs.FirstDrop.{first_drop}
use Rattle.mirpipe_cli.specs.Dumped.{IsDumped}
use Rattle.mirpipe_cli.proofs.dump.dump.Goals as goal

pub returns-in-Some-clause-refused : goal.returns-in-Some-clause-refused
returns-in-Some-clause-refused c = λ input accepted.
    record {
      C = crate_of c.args.accepted.valid;
      lines = c.args.accepted.lines;
      accepted = accepted;
      first = sym (c.in-Some.ensures ∙ ap (λ (q : Program). first_drop c.args.accepted.lines (crate_of q)) c.program-program.ensures.same);
    }

pub returns-in_default-function_at-clause-refused : goal.returns-in_default-function_at-clause-refused
returns-in_default-function_at-clause-refused c = λ input accepted.
    let p = c.program-program.result.now in
    let same = c.program-program.ensures.same in
    let none = none_has_path p c.as_slice.result.now c.program-program.ensures.checked.within c.in_default-function_at.ensures in
    record {
      C = crate_of c.args.accepted.valid;
      lines = c.args.accepted.lines;
      accepted = accepted;
      no_drop = sym (c.in_default.ensures ∙ ap (λ (q : Program). first_drop c.args.accepted.lines (crate_of q)) same);
      none = subst (λ (q : Program). HasNoFunction (crate_of q) c.args.path) same (subst (HasNoFunction (crate_of p)) c.as_slice.ensures none);
    }

pub dumped-requires-clause-there : goal.dumped-requires-clause-there
dumped-requires-clause-there c =
    let at = c.in-Some-function_at.ensures in
    let id = c.in-Some-function_at.id.0 in
    subst (λ (q : Program). id < length q.functions) c.program-program.ensures.same (slice_get_within c.program-program.result.now.functions id at.0 at.1)

pub returns-in-Ok-clause-writes : goal.returns-in-Ok-clause-writes
returns-in-Ok-clause-writes c = λ input accepted.
    let p = c.args.accepted.valid in
    let same = c.program-program.ensures.same in
    let trees = trees_of p.types in
    let id = c.in-Some-function_at.id.0 in
    let at = c.in-Some-function_at.ensures in
    let g = at.0 in
    let there : slice_get p.functions id ≡ Some g = ap (λ (q : Program). slice_get q.functions id) (sym same) ∙ at.1 in
    let path = has_path c.program-program.result.now c.as_slice.result.now id g at.1 at.2 at.3 in
    let path2 = subst (λ (q : Program). IsAt (crate_of q) c.as_slice.result.now id (function_of (trees_of q.types) g)) same path in
    let made = c.in-Ok.function in
    let dumped : IsDumped (crate_of p) c.args.stage c.args.path (function_text (crate_of p) (function_of trees made)) = record {
      k = id;
      f = function_of trees g;
      at = subst (λ q. IsAt (crate_of p) q id (function_of trees g)) c.as_slice.ensures path2;
      body = body_of trees made.body;
      staged = c.in-Ok.ensures.at g there;
      written = ap (λ h. function_text (crate_of p) (function_of trees h)) (c.in-Ok.ensures.head g there);
    } in
    let none = sym (c.in_default.ensures ∙ ap (λ (q : Program). first_drop c.args.accepted.lines (crate_of q)) same) in
    subst (λ (q : Program). Writes (Dump c.args.stage c.args.path) input (function_text (crate_of q) (function_of (trees_of q.types) made))) (sym c.into_program.ensures.same)
    (crate_of p, c.args.accepted.lines, accepted, none, dumped)
