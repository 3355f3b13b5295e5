use Rattle.std.proofs.Common.{◌≡◌, ◌&&◌, List, length}
use Rattle.mir_syntax.specs.Tree.{Tree}
use Rattle.mir_text.specs.NameFaults.{none_missing, none_missing_in}
use Rattle.mir_bodies.specs.Locals.{declared_in}
use Rattle.mir_file.proofs.head.none_missing.Given as goal

abbrev pub invariant-locals : goal.invariant-locals
invariant-locals l = (trees : List Tree) → (l.whole && none_missing_in (declared_in trees l.locals) (declared_in trees l.left)) ≡ none_missing (declared_in trees l.locals)

abbrev pub decreases-locals : goal.decreases-locals
decreases-locals l = length l.left
