use Rattle.cfg_simplify.proofs.laws.simple_stays_valid.Goals as goal
use Rattle.cfg_simplify.proofs.valid.Kept.{simple_stays_valid}
use Rattle.cfg_simplify.proofs.valid.Calls.{simple_calls, simple_drops}
use Rattle.cfg_simplify.proofs.valid.Limits.{simple_blocks_count, simple_locals_count}

pub returns-clause-valid : goal.returns-clause-valid
returns-clause-valid c = simple_stays_valid

pub returns-clause-calls : goal.returns-clause-calls
returns-clause-calls c = simple_calls

pub returns-clause-no_drops : goal.returns-clause-no_drops
returns-clause-no_drops c = simple_drops

pub returns-clause-blocks : goal.returns-clause-blocks
returns-clause-blocks c = simple_blocks_count

pub returns-clause-locals : goal.returns-clause-locals
returns-clause-locals c = simple_locals_count
