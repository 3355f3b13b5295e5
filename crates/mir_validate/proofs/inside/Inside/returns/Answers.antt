use Rattle.std.proofs.Common.{refl}
use Rattle.mir_validate.proofs.TermCodes.{no_function, no_outside, function_result, function_unit, outside_result, local_below, outside_result_below}
use Rattle.mir_validate.proofs.inside.Inside.returns.Goals as goal

pub is-requires-clause-seen_in_table : goal.is-requires-clause-seen_in_table
is-requires-clause-seen_in_table c =
    local_below c.args.self.now.program.now c.args.self.now.ids c.in-Local.f.0 0 c.in-Some.function.now c.in-Some-get.first.now c.in-Some.ensures c.in-Some-get.ensures

pub is-requires-in-Some-get-2-clause-seen_in_table : goal.is-requires-in-Some-get-2-clause-seen_in_table
is-requires-in-Some-get-2-clause-seen_in_table c =
    outside_result_below c.args.self.now.program.now c.args.self.now.ids c.in-Outside.o.0 c.in-Some-get-2.outside.now c.in-Some-get-2.ensures

pub returns-in-Some-get : goal.returns-in-Some-get
returns-in-Some-get c =
    let p = c.args.self.now.program.now in
    rw (c.in-Local.is, function_result p c.in-Local.f.0 c.in-Some.function.now c.in-Some-get.first.now c.in-Some.ensures c.in-Some-get.ensures) c.is.ensures

pub returns-in-None-get : goal.returns-in-None-get
returns-in-None-get c =
    let p = c.args.self.now.program.now in
    rw (c.in-Local.is, function_unit p c.in-Local.f.0 c.in-Some.function.now c.in-Some.ensures c.in-None-get.ensures) c.is-in-None-get.ensures

pub returns-in-None : goal.returns-in-None
returns-in-None c =
    let p = c.args.self.now.program.now in
    rw (c.in-Local.is, (no_function p c.in-Local.f.0 c.in-None.ensures).1) refl

pub returns-in-Some-get-2 : goal.returns-in-Some-get-2
returns-in-Some-get-2 c =
    let p = c.args.self.now.program.now in
    rw (c.in-Outside.is, outside_result p c.in-Outside.o.0 c.in-Some-get-2.outside.now c.in-Some-get-2.ensures) c.is-in-Some-get-2.ensures

pub returns-in-None-get-2 : goal.returns-in-None-get-2
returns-in-None-get-2 c =
    let p = c.args.self.now.program.now in
    rw (c.in-Outside.is, (no_outside p c.in-Outside.o.0 c.in-None-get-2.ensures).1) refl
