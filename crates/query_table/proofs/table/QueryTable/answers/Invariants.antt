use Rattle.std.proofs.Common.{◌≡◌, ◌++◌, ◌-◌}
use Rattle.sched_core.specs.Held.{roots_answers}
use Rattle.query_table.proofs.table.QueryTable.answers.Given as goal

abbrev pub invariant-loop-i : goal.invariant-loop-i
invariant-loop-i g l =
    let p = g.J.Jobs.plan l.jobs in
    let out = g.J.Jobs.out l.jobs in
    roots_answers out p 0 p.roots ≡ l.answers ++ roots_answers out p l.i (p.roots - l.i)
