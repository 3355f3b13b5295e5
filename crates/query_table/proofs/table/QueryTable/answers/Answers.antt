use Rattle.std.proofs.Common.{◌≡◌, ◌+◌, ◌-◌, ◌<◌, ◌++◌, sym, ap, ◌∙◌, arith}
use Rattle.sched_core.specs.Held.{roots_answers}
use Rattle.sched_core.proofs.Weaving.{answers_more, answers_end}
use Rattle.query_table.proofs.table.QueryTable.answers.Goals as goal

pub loop-i-preserved : goal.loop-i-preserved
loop-i-preserved g c =
    let jobs = c.into_slots-slots.result.1 in
    let p = g.J.Jobs.plan jobs in
    let out = g.J.Jobs.out jobs in
    let i = c.loop-i.i in
    let count = c.roots-i-end.ensures in
    let test = c.loop-i-test.true in
    let small : i < p.roots = omega arith in
    let same = c.into_slots-slots.ensures in
    let defined = c.take.ensures in
    let root = c.root.ensures in
    let is : c.take.result ≡ out (p.root i) = defined ∙ (ap (λ j. g.J.Jobs.out j c.root.result) (same.0 ∙ sym same.1) ∙ ap out root) in
    answers_more out p i p.roots c.loop-i.answers c.take.result is c.loop-i.invariant small
    ∙ ap (λ xs. xs ++ roots_answers out p (i + 1) (p.roots - (i + 1))) (sym c.in_ok-push.ensures.ok)

pub invariant_of-result : goal.invariant_of-result
invariant_of-result g c =
    let jobs = c.into_slots-slots.result.1 in
    let p = g.J.Jobs.plan jobs in
    let count = c.roots-i-end.ensures in
    let test = c.loop-i-test.false in
    answers_end (g.J.Jobs.out jobs) p c.loop-i.i p.roots c.loop-i.answers c.loop-i.invariant (omega arith)
