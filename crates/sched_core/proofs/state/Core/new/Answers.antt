use Rattle.std.proofs.Common.{refl}
use Rattle.sched_core.specs.declared.state.Core.{Core}
use Rattle.sched_core.proofs.Fresh.{fresh_state, fresh_good}
use Rattle.sched_core.proofs.state.Core.new.Goals as goal

pub returns : goal.returns
returns g c =
    let p = g.J.Jobs.plan c.args.jobs.now in
    let core : Core = record {
      alloc = c.args.alloc;
      status = c.in_ok-filled.field-0;
      stacks = c.in_ok-empty_rows.field-0;
      borrow = c.in_ok-filled-2.field-0;
      seen = c.in_ok-blank_rows.field-0;
      gone = c.in_ok-blank_rows-2.field-0;
      wait = c.in_ok-filled-3.field-0;
      root = c.in_ok-filled-4.field-0;
      told = c.in_ok-filled-5.field-0;
      drawn = 0;
    } in (
      fresh_good p c.requires.jobs core c.args.workers c.queries-queries.result c.requires.workers.1 c.queries-queries.ensures c.in_ok-filled.ensures c.in_ok-empty_rows.ensures c.in_ok-filled-2.ensures c.in_ok-blank_rows.ensures c.in_ok-blank_rows-2.ensures c.in_ok-filled-3.ensures c.in_ok-filled-4.ensures c.in_ok-filled-5.ensures refl,
      fresh_state p c.requires.jobs core c.args.workers c.queries-queries.result c.requires.workers.1 c.queries-queries.ensures c.in_ok-filled.ensures c.in_ok-empty_rows.ensures c.in_ok-filled-2.ensures c.in_ok-blank_rows.ensures c.in_ok-blank_rows-2.ensures c.in_ok-filled-3.ensures c.in_ok-filled-4.ensures c.in_ok-filled-5.ensures refl,
    )
