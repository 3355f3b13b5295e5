use Rattle.std.proofs.Common.{length}
use Rattle.pipe_words.specs.Paths.{IsPath}
use Rattle.pipe_words.proofs.paths.is_path.Given as goal

abbrev pub invariant-names : goal.invariant-names
invariant-names l = record { whole : IsPath l.rest → IsPath l.fn.text; left : IsPath l.fn.text → IsPath l.rest }

abbrev pub decreases-names : goal.decreases-names
decreases-names l = length l.rest
