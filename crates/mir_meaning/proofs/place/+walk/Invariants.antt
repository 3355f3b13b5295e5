use Rattle.std.proofs.Common.{◌-◌, length}
use Rattle.mir_meaning.proofs.place.+walk.Given as goal

abbrev pub decreases-walk : goal.decreases-walk
decreases-walk l = length l.from.now - l.len
