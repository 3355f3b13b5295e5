use Rattle.bit_rows.proofs.Blocks.{mixed_chunk}
use Rattle.bit_rows.proofs.lanes.mix_block.Goals as goal

pub returns : goal.returns
returns c = mixed_chunk c.args.mix c.args.words.now c.args.into c.args.others.now c.args.from c.mixed_lanes-new.result c.differ.result c.requires.into_in c.mixed_lanes-new.ensures.lanes c.mixed_lanes-new.ensures.each c.differ.ensures
