use Rattle.mir_round_trip.proofs.text_is_read_back.Goals as goal
use Rattle.mir_round_trip.proofs.ReadBack.{read_back}

pub returns : goal.returns
returns c = read_back
