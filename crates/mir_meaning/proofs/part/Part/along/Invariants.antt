use Rattle.std.proofs.Common.{◌≡◌, length}
use Rattle.mir_semantics.specs.Values.{at_path}
use Rattle.mir_meaning.specs.Views.{part_of}
use Rattle.mir_meaning.proofs.part.Part.along.Given as goal

abbrev pub invariant-loop-first : goal.invariant-loop-first
invariant-loop-first l = at_path l.path (part_of l.part) ≡ at_path l.initial.path (part_of l.initial.part)

abbrev pub decreases-loop-first : goal.decreases-loop-first
decreases-loop-first l = length l.path
