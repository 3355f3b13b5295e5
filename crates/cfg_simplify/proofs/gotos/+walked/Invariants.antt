use Rattle.cfg_simplify.proofs.gotos.+walked.Given as goal

abbrev pub decreases-walked : goal.decreases-walked
decreases-walked l = l.count
