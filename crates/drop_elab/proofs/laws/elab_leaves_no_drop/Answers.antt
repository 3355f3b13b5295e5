use Rattle.drop_elab.proofs.NoDrop.{no_drop, args_stay, locals_stay}
use Rattle.drop_elab.proofs.laws.elab_leaves_no_drop.Goals as goal

pub returns-clause-no_drops : goal.returns-clause-no_drops
returns-clause-no_drops c = no_drop

pub returns-clause-args : goal.returns-clause-args
returns-clause-args c = args_stay

pub returns-clause-locals : goal.returns-clause-locals
returns-clause-locals c = locals_stay
