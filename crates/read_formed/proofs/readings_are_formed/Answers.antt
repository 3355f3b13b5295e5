use Rattle.read_formed.proofs.Files.{reading_formed}
use Rattle.read_formed.proofs.Lines.{reading_fits}
use Rattle.read_formed.proofs.readings_are_formed.Goals as goal

pub returns-clause-formed : goal.returns-clause-formed
returns-clause-formed c = reading_formed

pub returns-clause-fit : goal.returns-clause-fit
returns-clause-fit c = reading_fits
