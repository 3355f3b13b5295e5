use Rattle.std.proofs.Common.{◌≡◌, ◌<◌, sym, ap, ◌∙◌, subst, length, get_or, Some, slice_get, arith}
use Rattle.std.proofs.lemmas.Grind.{common_steps}
use Rattle.std.proofs.lemmas.Option.{slice_get_within, slice_get-get_or, get_or_from_slice_get}
use Rattle.mir_syntax.specs.declared.body.Function.{Function}
use Rattle.pass_order.specs.Programs.{CanPass, PassesTo}
use Rattle.pass_order.proofs.Going.{going_more}
use Rattle.pass_order.proofs.all_bodies.passed_functions.Goals as goal

pub pass_function-requires-clause-can_pass : goal.pass_function-requires-clause-can_pass
pass_function-requires-clause-can_pass c =
    let going = c.loop-function.invariant in
    let long = going.long in
    let i = c.loop-function.function-index in
    let d = c.function-item.result in
    let below : i < length c.args.functions = omega arith in
    let there : slice_get c.args.functions i ≡ Some (get_or c.args.functions i d) = slice_get-get_or c.args.functions i d below in
    subst (λ (g : Function). CanPass c.args.program.now g.body) (sym (going.rest i d (omega arith))) (c.requires.can_pass i (get_or c.args.functions i d) there)

pub loop-function-preserved : goal.loop-function-preserved
loop-function-preserved c =
    going_more (PassesTo c.args.program.now) c.args.functions c.loop-function.function-items c.loop-function.function-index c.function-item.result c.pass_function.new.function (omega arith) c.loop-function.invariant c.in_ok-pass_function.ensures

pub returns-clause-each : goal.returns-clause-each
returns-clause-each c = λ i g g2 e e2.
    let going = c.loop-function.invariant in
    let long = going.long in
    let items = c.loop-function.function-items in
    let out : c.from_vec.result ≡ items = grind (arith, common_steps) in
    let at : slice_get items i ≡ Some g2 = ap (λ gs. slice_get gs i) (sym out) ∙ e2 in
    let m : i < length c.args.functions = slice_get_within c.args.functions i g e in
    let low : i < c.loop-function.function-index = omega arith in
    let done = going.done i g low m in
    subst (λ (h : Function). PassesTo c.args.program.now g h) (get_or_from_slice_get items i g2 g at)
    (subst (λ (h : Function). PassesTo c.args.program.now h (get_or items i g)) (get_or_from_slice_get c.args.functions i g g e) done)
