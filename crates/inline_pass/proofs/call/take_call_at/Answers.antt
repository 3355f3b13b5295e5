use Rattle.inline_pass.proofs.equal.Places.{took}
use Rattle.inline_pass.proofs.call.take_call_at.Goals as goal

pub returns : goal.returns
returns c = took c.args.blocks.now c.args.block c.index-blocks-block.result c.take_call.new.block c.take_call.result c.requires c.take_call.ensures
