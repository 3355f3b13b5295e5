use Rattle.std.proofs.Common.{◌≡◌, ◌∷◌, ◌++◌, [], refl, arith}
use Rattle.sched_core.specs.declared.state.Standing.{Standing}
use Rattle.sched_core.proofs.Listed.{regrown, more_room, old_room}
use Rattle.sched_core.proofs.Fields.{ready_more}
use Rattle.sched_core.proofs.rows.make_top_room.Goals as goal

pub returns-in-Ok-clause-stack : goal.returns-in-Ok-clause-stack
returns-in-Ok-clause-stack c = regrown c.pop.new.self.items c.args.row.now.items c.push_reserved.new.self.items c.in-Some.top (record { query = c.in-Some.top.query; given = c.reserve-reserved.new.self }) (c.in-Some.ensures.items) c.push_reserved.ensures.items refl c.reserve-reserved.ensures.items

pub returns-in-Ok-clause-room : goal.returns-in-Ok-clause-room
returns-in-Ok-clause-room c = (let n = c.in-Some.ensures.cases in let r = c.requires in omega (arith, n, r), more_room c.pop.new.self.items c.args.row.now.items c.push_reserved.new.self.items c.in-Some.top (record { query = c.in-Some.top.query; given = c.reserve-reserved.new.self }) (c.in-Some.ensures.items) c.push_reserved.ensures.items refl c.reserve-reserved.ensures.items (let k = c.in-Ok.ensures.ok in omega (arith, k)))

pub returns-in-Ok-clause-kept : goal.returns-in-Ok-clause-kept
returns-in-Ok-clause-kept c = λ p told.
    let old = c.in-Some.top in
    let new : Standing = record { query = c.in-Some.top.query; given = c.reserve-reserved.new.self } in
    ready_more p told c.args.row.now c.push_reserved.new.self (let n = c.in-Some.ensures.cases in omega (arith, n)) (omega arith)
    (regrown c.pop.new.self.items c.args.row.now.items c.push_reserved.new.self.items old new (c.in-Some.ensures.items) c.push_reserved.ensures.items refl c.reserve-reserved.ensures.items)
    (λ r. more_room c.pop.new.self.items c.args.row.now.items c.push_reserved.new.self.items old new (c.in-Some.ensures.items) c.push_reserved.ensures.items refl c.reserve-reserved.ensures.items (let k = c.in-Ok.ensures.ok in omega (arith, k)))

pub returns-in-Err-clause-stack : goal.returns-in-Err-clause-stack
returns-in-Err-clause-stack c = regrown c.pop.new.self.items c.args.row.now.items c.push_reserved.new.self.items c.in-Some.top (record { query = c.in-Some.top.query; given = c.reserve-reserved.new.self }) (c.in-Some.ensures.items) c.push_reserved.ensures.items refl c.reserve-reserved.ensures.items

pub returns-in-Err-clause-kept : goal.returns-in-Err-clause-kept
returns-in-Err-clause-kept c = λ p told.
    let old = c.in-Some.top in
    let new : Standing = record { query = c.in-Some.top.query; given = c.reserve-reserved.new.self } in
    let olds : c.args.row.now.items ≡ c.pop.new.self.items ++ old ∷ [] = c.in-Some.ensures.items in
    ready_more p told c.args.row.now c.push_reserved.new.self (let n = c.in-Some.ensures.cases in omega (arith, n)) (omega arith)
    (regrown c.pop.new.self.items c.args.row.now.items c.push_reserved.new.self.items old new olds c.push_reserved.ensures.items refl c.reserve-reserved.ensures.items)
    (λ r. more_room c.pop.new.self.items c.args.row.now.items c.push_reserved.new.self.items old new olds c.push_reserved.ensures.items refl c.reserve-reserved.ensures.items
    (let o = old_room c.pop.new.self.items c.args.row.now.items c.push_reserved.new.self.items old new olds c.push_reserved.ensures.items refl c.reserve-reserved.ensures.items r in omega (arith, o)))
