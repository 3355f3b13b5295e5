use Rattle.std.proofs.Common.{refl, true, false, replicate, arith}
use Rattle.std.proofs.lemmas.List.{length-replicate, get_or-replicate}
use Rattle.liveness.specs.Lattice.{row_long}
use Rattle.move_paths.proofs.Fill.{fill_none, fill_more, fill_done}
use Rattle.move_paths.proofs.rows.full_row.Goals as goal

pub loop-bit-init : goal.loop-bit-init
loop-bit-init c = fill_none c.args.bits (λ k. true) c.in_ok-row.row c.in_ok-row.ensures

pub set-requires-clause-row_in : goal.set-requires-clause-row_in
set-requires-clause-row_in c = (let one = c.loop-bit.invariant.size.count_is in omega arith)

pub set-requires-clause-bit_in : goal.set-requires-clause-bit_in
set-requires-clause-bit_in c = (let long = row_long c.args.bits c.loop-bit.row c.loop-bit.invariant.size in omega (arith, c.loop-bit-test.true))

pub loop-bit-preserved : goal.loop-bit-preserved
loop-bit-preserved c = fill_more c.args.bits c.loop-bit.bit (λ k. true) c.loop-bit.row c.set.new.self true (omega (arith, c.loop-bit-test.true)) c.loop-bit.invariant c.set.ensures refl

pub returns : goal.returns
returns c = fill_done c.args.bits c.loop-bit.bit (λ k. true) c.loop-bit.row (replicate c.args.bits true) c.loop-bit.invariant (omega (arith, c.loop-bit-test.false)) (length-replicate c.args.bits true) (λ k l. get_or-replicate c.args.bits k true false l)
