use Rattle.std.proofs.Common.{arith}
use Rattle.mir_text.specs.TermText.{arms_text}
use Rattle.mir_print.proofs.Texts.{remains_next, remains_none, first_arm, no_arms}
use Rattle.mir_print.proofs.term.put_arms.Goals as goal

pub loop-arm-preserved : goal.loop-arm-preserved
loop-arm-preserved g c =
    remains_next ((λ xs. arms_text xs)) ((λ xs. arms_text xs)) c.args.arms.now c.loop-arm.arm-index _
    (omega (arith, c.loop-arm-test.true)) (first_arm _ _) c.loop-arm.invariant c.put_arm.ensures

pub returns : goal.returns
returns g c =
    remains_none ((λ xs. arms_text xs)) c.args.arms.now c.loop-arm.arm-index (omega (arith, c.loop-arm-test.false)) (no_arms) c.loop-arm.invariant
