use Rattle.const_rewrite.proofs.equal.Whole.{body_is, still_in_table}
use Rattle.const_rewrite.proofs.fold.folded.Goals as goal

pub returns-clause-folded : goal.returns-clause-folded
returns-clause-folded c = body_is c.args.program.now c.args.body c.in_ok-rows.rows c.in_ok-blocks.blocks c.in_ok-rows.ensures c.in_ok-blocks.ensures.blocks

pub returns-clause-in_table : goal.returns-clause-in_table
returns-clause-in_table c = still_in_table c.args.program.now.types c.args.body c.in_ok-blocks.blocks c.requires.body_ids c.in_ok-blocks.ensures.ids
