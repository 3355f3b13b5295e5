use Rattle.crate_gen.proofs.Fitting.{lines_are_fit}
use Rattle.crate_gen.proofs.laws.made_lines_fit.Goals as goal

pub returns : goal.returns
returns c = lines_are_fit
