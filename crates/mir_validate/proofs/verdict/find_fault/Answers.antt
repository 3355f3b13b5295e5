use Rattle.std.proofs.Common.{◌≡◌, IsTrue, None, Some, sym, ap, ap₂, subst, ◌∙◌}
use Rattle.std.specs.Option.{option_map}
use Rattle.mir_syntax.specs.Crate.{Crate, crate_of}
use Rattle.mir_rules.specs.Formed.{is_formed}
use Rattle.mir_rules.specs.Faults.{lines_fit, first_rule, first_limit}
use Rattle.mir_limits.specs.Answer.{answer_of}
use Rattle.mir_validate.specs.Walk.{place_of}
use Rattle.mir_validate.proofs.Completing.{same_crate, ids_stay}
use Rattle.mir_validate.proofs.verdict.find_fault.Goals as goal

pub limit_fault-requires-clause-ids : goal.limit_fault-requires-clause-ids
limit_fault-requires-clause-ids c = ids_stay c.args.program.now c.judge.new.program c.judge.ensures.grown c.requires.ids

pub limit_fault-requires-clause-formed : goal.limit_fault-requires-clause-formed
limit_fault-requires-clause-formed c =
    let same = same_crate c.args.program.now c.judge.new.program c.judge.ensures.grown c.requires.ids in
    subst (λ (C : Crate). IsTrue (is_formed C)) (sym same) c.requires.formed

pub limit_fault-requires-clause-fit : goal.limit_fault-requires-clause-fit
limit_fault-requires-clause-fit c =
    let same = same_crate c.args.program.now c.judge.new.program c.judge.ensures.grown c.requires.ids in
    subst (λ (C : Crate). IsTrue (lines_fit c.args.lines.now C)) (sym same) c.requires.fit

pub returns-in-Some-2-clause-limit : goal.returns-in-Some-2-clause-limit
returns-in-Some-2-clause-limit c = λ code line h.
    let lines = c.args.lines.now in
    let C = crate_of c.args.program.now in
    let x = c.in-Some-2.passed in
    let same = same_crate c.args.program.now c.judge.new.program c.judge.ensures.grown c.requires.ids in
    let no_rule : first_rule lines C ≡ None = sym c.in_ok-broken.ensures.first ∙ ap (option_map place_of) c.in_default.is in
    let found : first_limit lines C ≡ Some (x.code, x.line) = ap (first_limit lines) (sym same) ∙ (sym c.in_ok-passed.ensures ∙ ap (option_map answer_of) c.in-Some-2.is) in
    let by_code : x.code ≡ code = cc in
    let by_line : x.line ≡ line = cc in
    (no_rule, found ∙ ap₂ (λ m n. Some (m, n)) by_code by_line)

pub returns-in-None-clause-no_limit : goal.returns-in-None-clause-no_limit
returns-in-None-clause-no_limit c =
    let lines = c.args.lines.now in
    let same = same_crate c.args.program.now c.judge.new.program c.judge.ensures.grown c.requires.ids in
    ap (first_limit lines) (sym same) ∙ (sym c.in_ok-passed.ensures ∙ ap (option_map answer_of) c.in-None.is)
