use Rattle.std.proofs.Common.{ap, ◌∙◌, subst, refl}
use Rattle.sched_core.specs.Shown.{stack_of, has_given_room}
use Rattle.sched_core.proofs.Listed.{room_last, given_last}
use Rattle.sched_core.proofs.rows.give_top.Goals as goal

pub push_reserved-requires : goal.push_reserved-requires
push_reserved-requires c = room_last c.pop.new.self.items c.in-Some.top (subst has_given_room c.in-Some.ensures.items c.requires)

pub returns-in-Some-clause-stack : goal.returns-in-Some-clause-stack
returns-in-Some-clause-stack c =
    ap stack_of c.push_reserved-in-Some.ensures.items
    ∙ given_last c.pop.new.self.items c.args.row.now.items c.in-Some.top (record { query = c.in-Some.top.query; given = c.push_reserved.new.self }) c.args.s c.in-Some.ensures.items refl c.push_reserved.ensures.items
