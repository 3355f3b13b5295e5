-- A turn takes the piece at the front, and what is left is shorter.
use Rattle.std.proofs.Common.{◌<◌, length, refl, arith}
use Rattle.mir_symbols.proofs.GoesOn.{some_bytes, piece-goes_on, fault-goes_on, fault-ends, last-ends, piece-in_step}
use Rattle.mir_symbols.proofs.scan.Symbols.scan_on.Goals as goal

pub returns-then-may_end_item-clause-goes_on : goal.returns-then-may_end_item-clause-goes_on
returns-then-may_end_item-clause-goes_on c = λ whole ends.
    piece-goes_on c.turns.self c.take.new.self c.turns.rest.now c.in-Ok.past.now c.in-Ok.piece whole c.in-Ok.ensures.shorter c.in-Ok.ensures.read c.in_ok-take-in-Ok.ensures.taken (c.turns.invariant.0 whole ends)

pub turns-preserved : goal.turns-preserved
turns-preserved c =
    let inv = c.turns.invariant in
    let shorter : length c.in-Ok.past.now < length c.turns.rest.now = c.in-Ok.ensures.shorter in
    let lines = c.in_ok-take-in-Ok.ensures.lines in
    let strings = c.in_ok-take-in-Ok.ensures.strings in (
      (λ whole ends. piece-goes_on c.turns.self c.take.new.self c.turns.rest.now c.in-Ok.past.now c.in-Ok.piece whole shorter c.in-Ok.ensures.read c.in_ok-take-in-Ok.ensures.taken (inv.0 whole ends)),
      (λ same. piece-in_step c.turns.self c.take.new.self c.in-Ok.piece _ c.in_ok-take-in-Ok.ensures.taken (inv.1 same)),
      omega arith,
      omega arith,
      omega arith,
    )

pub returns-in-Err-clause-goes_on : goal.returns-in-Err-clause-goes_on
returns-in-Err-clause-goes_on c = λ whole ends.
    fault-goes_on c.turns.self _ c.turns.rest.now c.in-Err.code whole (some_bytes c.turns.rest.now c.is_empty.result c.is_empty.ensures c.turns-test.true) c.in-Err.ensures.read refl (c.turns.invariant.0 whole ends)

pub returns-in-Err-clause-ends : goal.returns-in-Err-clause-ends
returns-in-Err-clause-ends c = λ on whole ends.
    fault-ends c.turns.self _ c.turns.rest.now c.in-Err.code whole (some_bytes c.turns.rest.now c.is_empty.result c.is_empty.ensures c.turns-test.true) c.in-Err.ensures.read refl (c.turns.invariant.0 whole ends)

pub returns-clause-ends : goal.returns-clause-ends
returns-clause-ends c = λ on whole ends. last-ends c.turns.self whole c.turns.rest.now c.is_empty.result c.is_empty.ensures c.turns-test.false (c.turns.invariant.0 whole ends)
