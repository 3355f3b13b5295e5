use Rattle.drop_elab.proofs.InPlace.{blocks_counted, locals_counted}
use Rattle.drop_elab.proofs.laws.elab_is_counted.Goals as goal

pub returns-clause-blocks : goal.returns-clause-blocks
returns-clause-blocks c = blocks_counted

pub returns-clause-locals : goal.returns-clause-locals
returns-clause-locals c = locals_counted
