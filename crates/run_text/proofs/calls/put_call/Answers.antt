use Rattle.std.proofs.Common.{◌≡◌, ◌++◌, Some, sym, ap, ◌∙◌, append_assoc}
use Rattle.mir_syntax.specs.Tree.{trees_of}
use Rattle.mir_syntax.specs.Crate.{outside_of}
use Rattle.mir_machine.specs.Seen.{called_as}
use Rattle.run_text.specs.RunText.{call_of}
use Rattle.run_text.proofs.Lines.{call_there}
use Rattle.run_text.proofs.calls.put_call.Goals as goal

pub returns : goal.returns
returns c =
    let shown : c.put-5.new.out ≡ c.args.out.now ++ call_of (Some (outside_of (trees_of c.args.program.now.types) c.in-Some.outside.now)) (called_as c.args.call.now) =
    rw (c.in_ok-put-5.ensures, c.in_ok-put_answer.ensures, c.in_ok-put-4.ensures, c.in_ok-put_integers.ensures, c.in_ok-put-3.ensures, c.in_ok-put-2.ensures, c.in_ok-put.ensures, c.as_slice.ensures, c.as_slice-4.ensures, c.in_ok-numbers.ensures, c.as_slice-2.ensures, c.as_slice-3.ensures) (simp append_assoc) in
    shown ∙ ap (λ t. c.args.out.now ++ t) (sym (call_there c.args.program.now c.args.call.now c.in-Some.outside.now (sym c.in-Some.ensures)))
