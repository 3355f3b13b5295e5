use Rattle.mir_text.specs.Symbols.{grammar_names}
use Rattle.mir_round_trip.proofs.strings_are_kept.Goals as goal
use Rattle.mir_round_trip.proofs.Numbering.{strings_back}

pub returns : goal.returns
returns c = λ ps bytes h. strings_back grammar_names ps bytes h
