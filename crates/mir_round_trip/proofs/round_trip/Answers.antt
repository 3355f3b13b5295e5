use Rattle.mir_round_trip.proofs.round_trip.Goals as goal
use Rattle.mir_round_trip.proofs.Readings.{reading_back}

pub returns : goal.returns
returns c = reading_back
