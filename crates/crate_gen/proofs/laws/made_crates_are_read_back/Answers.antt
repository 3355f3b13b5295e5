use Rattle.crate_gen.proofs.Written.{reads_back}
use Rattle.crate_gen.proofs.laws.made_crates_are_read_back.Goals as goal

pub returns : goal.returns
returns c = reads_back
