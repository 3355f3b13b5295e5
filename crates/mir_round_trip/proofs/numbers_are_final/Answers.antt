use Rattle.mir_round_trip.proofs.numbers_are_final.Goals as goal
use Rattle.mir_round_trip.proofs.Numbering.{numbers_final}

pub returns : goal.returns
returns c = numbers_final
