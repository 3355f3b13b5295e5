use Rattle.dead_store.proofs.laws.one_body_is_pruned.Goals as goal
use Rattle.dead_store.proofs.equal.Once.{one_answer}

pub returns : goal.returns
returns c = one_answer
