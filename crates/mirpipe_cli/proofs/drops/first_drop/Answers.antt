use Rattle.std.proofs.Common.{◌≡◌, suc, ◌+◌, ◌<◌, ◌≤◌, List, length, get_or, drop, Some, None, sym, ap, subst, ◌∙◌, arith}
use Rattle.mir_syntax.specs.declared.body.Function.{Function}
use Rattle.mir_syntax.specs.Tree.{trees_of}
use Rattle.mir_rules.specs.Broken.{terminator}
use Rattle.mir_rules.specs.Faults.{line_at}
use Rattle.mirpipe_cli.specs.Found.{drop_block}
use Rattle.mirpipe_cli.proofs.Dropping.{first_spot, spot_here, spot_more, no_spot_left, first_line, no_line}
use Rattle.mirpipe_cli.proofs.drops.first_drop.Goals as goal

pub returns-in-Some : goal.returns-in-Some
returns-in-Some c =
    let fs = c.args.program.now.functions in
    let trees = trees_of c.args.program.now.types in
    let i = c.loop-function.function-index in
    let item = c.function-item.result in
    let block = c.in-Some.block in
    let long : length c.as_slice-function-items.result.now ≡ length fs = ap length c.as_slice-function-items.ensures in
    let in_list : i < length fs = omega (arith, c.loop-function-test.true, long) in
    let here : get_or fs i item ≡ item = sym (c.function-item.is ∙ ap (λ (xs : List Function). get_or xs i item) c.as_slice-function-items.ensures) in
    let found : drop_block (get_or fs i item).body.blocks ≡ Some block = ap (λ (g : Function). drop_block g.body.blocks) here ∙ sym (c.in-Some.ensures ∙ ap drop_block c.as_slice.ensures) in
    let spot = c.loop-function.invariant.1 ∙ spot_here trees i i block fs item in_list found in
    ap Some (c.terminator_line.ensures ∙ ap (λ n. line_at c.args.lines.now (terminator n block)) c.loop-function.invariant.0)
    ∙ sym (first_line c.args.lines.now c.args.program.now (terminator i block) spot)

pub loop-function-preserved : goal.loop-function-preserved
loop-function-preserved c =
    let fs = c.args.program.now.functions in
    let trees = trees_of c.args.program.now.types in
    let i = c.loop-function.function-index in
    let item = c.function-item.result in
    let long : length c.as_slice-function-items.result.now ≡ length fs = ap length c.as_slice-function-items.ensures in
    let in_list : i < length fs = omega (arith, c.loop-function-test.true, long) in
    let here : get_or fs i item ≡ item = sym (c.function-item.is ∙ ap (λ (xs : List Function). get_or xs i item) c.as_slice-function-items.ensures) in
    let none : drop_block (get_or fs i item).body.blocks ≡ None = ap (λ (g : Function). drop_block g.body.blocks) here ∙ sym (c.in_default.ensures ∙ ap drop_block c.as_slice.ensures) in
    let next : suc i ≡ i + 1 = omega arith in
    let spots = subst (λ n. first_spot trees i (drop i fs) ≡ first_spot trees n (drop n fs)) next (spot_more trees i i fs item in_list none) in
    (ap (λ n. n + 1) c.loop-function.invariant.0, c.loop-function.invariant.1 ∙ spots)

pub returns : goal.returns
returns c =
    let fs = c.args.program.now.functions in
    let i = c.loop-function.function-index in
    let long : length c.as_slice-function-items.result.now ≡ length fs = ap length c.as_slice-function-items.ensures in
    let past : length fs ≤ i = omega (arith, c.loop-function-test.false, long) in
    sym (no_line c.args.lines.now c.args.program.now (c.loop-function.invariant.1 ∙ no_spot_left (trees_of c.args.program.now.types) i i fs past))
