use Rattle.std.proofs.Common.{◌≡◌, map, take}
use Rattle.mir_syntax.specs.Tree.{trees_of}
use Rattle.mir_syntax.specs.Shapes.{needs_by}
use Rattle.drop_tables.specs.Marks.{is_marked}
use Rattle.drop_tables.proofs.marks.types_holding.Given as goal

abbrev pub invariant-loop-at : goal.invariant-loop-at
invariant-loop-at l = l.held ≡ map (needs_by (is_marked l.marks)) (take l.at (trees_of l.program.types))
