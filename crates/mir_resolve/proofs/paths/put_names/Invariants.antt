use Rattle.std.proofs.Common.{◌≡◌, length}
use Rattle.mir_text.specs.Names.{string_at}
use Rattle.mir_resolve.specs.Paths.{path_after}
use Rattle.mir_resolve.proofs.paths.put_names.Given as goal

abbrev pub invariant-names : goal.invariant-names
invariant-names l = path_after l.strings l.buffer l.left ≡ path_after l.strings (string_at l.strings l.first) l.rest

abbrev pub decreases-names : goal.decreases-names
decreases-names l = length l.left
