use Rattle.mir_round_trip.proofs.readings_are_readable.Goals as goal
use Rattle.mir_round_trip.proofs.Readings.{reading_readable}

pub returns : goal.returns
returns c = reading_readable
