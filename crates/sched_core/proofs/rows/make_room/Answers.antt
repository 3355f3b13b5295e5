use Rattle.std.proofs.Common.{ap, ◌∙◌, sym, subst}
use Rattle.sched_core.specs.Shown.{stack_of, has_given_room}
use Rattle.sched_core.proofs.Fields.{ready_more}
use Rattle.sched_core.proofs.rows.make_room.Goals as goal

pub returns-in-Ok-clause-stack : goal.returns-in-Ok-clause-stack
returns-in-Ok-clause-stack c = c.make_top_room.ensures.stack ∙ ap stack_of c.reserve.ensures.items

pub returns-in-Ok-clause-kept : goal.returns-in-Ok-clause-kept
returns-in-Ok-clause-kept c = λ p told h.
    c.make_top_room.ensures.kept p told (ready_more p told c.args.row.now c.reserve.new.self c.reserve.ensures.len c.reserve.ensures.capacity (ap stack_of c.reserve.ensures.items) (λ r. subst has_given_room (sym c.reserve.ensures.items) r) h)

pub returns-in-Err-clause-stack : goal.returns-in-Err-clause-stack
returns-in-Err-clause-stack c = ap stack_of c.reserve.ensures.items

pub returns-in-Err-clause-kept : goal.returns-in-Err-clause-kept
returns-in-Err-clause-kept c = λ p told h.
    ready_more p told c.args.row.now c.reserve.new.self c.reserve.ensures.len c.reserve.ensures.capacity (ap stack_of c.reserve.ensures.items) (λ r. subst has_given_room (sym c.reserve.ensures.items) r) h
