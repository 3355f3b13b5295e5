use Rattle.std.proofs.Common.{arith, ◌-◌}
use Rattle.mir_print.proofs.Texts.{openings_more, openings_done}
use Rattle.mir_print.proofs.place.put_openings.Goals as goal

pub loop-left-preserved : goal.loop-left-preserved
loop-left-preserved g c =
    (openings_more c.args.projs.now (c.loop-left.left - 1) c.loop-left.left _ (omega (arith, c.loop-left-test.true, c.loop-left.invariant.1)) (omega (arith, c.loop-left-test.true)) c.loop-left.invariant.0 c.put_opening.ensures, omega (arith, c.loop-left.invariant.1))

pub returns : goal.returns
returns g c = openings_done c.args.projs.now c.loop-left.left (omega (arith, c.loop-left-test.false)) c.loop-left.invariant.0
