use Rattle.mir_validate.proofs.Completing.{one_more_reference}
use Rattle.mir_validate.proofs.complete.add_references.Goals as goal

pub loop-at-preserved : goal.loop-at-preserved
loop-at-preserved c = one_more_reference c.args.program.now c.loop-at.program c.add.new.program c.loop-at.at c.loop-at.invariant c.in_ok-add.ensures.grown c.in_ok-add.ensures.few c.in_ok-add.ensures.has
