use Rattle.mir_semantics.specs.Step.{resolve}
use Rattle.mir_meaning.proofs.Sights.{both_cases}
use Rattle.mir_meaning.proofs.here.Here.resolve.Goals as goal

pub returns-clause-place : goal.returns-clause-place
unfolding resolve
returns-clause-place c = both_cases _ c.resolve.result c.resolve.ensures.gone c.resolve.ensures.there
